pub mod Offers
pub mod Best
