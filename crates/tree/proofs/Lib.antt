mod Checking
pub mod Counting
pub mod Depths
mod Handles
mod Nexts
mod Opened
mod Opening
mod Owning
mod Readable
mod Taking
mod Unread
