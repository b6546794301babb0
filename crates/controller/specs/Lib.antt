pub mod Calls
pub mod Meaning
