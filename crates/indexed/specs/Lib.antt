pub mod Handles
pub mod Orders
pub mod Rows
pub mod Starts
pub mod Spots
pub mod Single
