pub mod Prefixes
pub mod Keeping
pub mod Counting
pub mod Boards
pub mod Ticks
