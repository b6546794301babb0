pub mod Nexuses
pub mod Rows
