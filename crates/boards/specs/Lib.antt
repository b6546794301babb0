pub mod Seats
pub mod Devices
pub mod Assembly
pub mod Boards
