pub mod FirstBytes
pub mod Names
