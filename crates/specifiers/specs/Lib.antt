pub mod Cuts
pub mod Lists
pub mod Specifiers
