pub mod Above
pub mod Finding
pub mod Joining
pub mod Telling
