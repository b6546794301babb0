pub mod Lists
pub mod Faults
pub mod Law
pub mod Texts
