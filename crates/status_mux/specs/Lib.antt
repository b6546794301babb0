pub mod Offers
pub mod Lowest
