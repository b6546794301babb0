pub mod Tables
pub mod Kinds
pub mod Ranges
pub mod Orders
