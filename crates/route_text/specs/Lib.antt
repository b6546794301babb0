pub mod Ends
pub mod Texts
