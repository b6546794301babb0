pub mod Own
pub mod Kept
pub mod Law
pub mod Example
