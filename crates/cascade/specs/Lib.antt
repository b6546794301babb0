pub mod Pairs
pub mod Sides
pub mod Questions
pub mod Parts
pub mod Pairing
pub mod SidesLemmas
pub mod Places
