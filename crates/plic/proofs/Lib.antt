pub mod Priorities
pub mod Greatest
