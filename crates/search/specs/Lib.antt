pub mod Exactly
pub mod First
