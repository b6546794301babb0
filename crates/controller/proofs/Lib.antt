pub mod Resets
