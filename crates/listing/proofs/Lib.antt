pub mod Pushed
pub mod Roots
