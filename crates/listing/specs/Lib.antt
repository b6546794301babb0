pub mod Paths
pub mod Stops
