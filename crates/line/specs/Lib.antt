pub mod Rows
pub mod Steps
pub mod Lines
pub mod Made
