pub mod Bindings
pub mod Kinds
pub mod Reading
pub mod Seen
