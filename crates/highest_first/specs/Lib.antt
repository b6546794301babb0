pub mod Highest
pub mod Held
