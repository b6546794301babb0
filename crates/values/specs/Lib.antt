pub mod Counts
pub mod Values
