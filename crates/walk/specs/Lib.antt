pub mod Hops
pub mod Walks
