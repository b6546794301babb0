pub mod Matching
pub mod Tries
