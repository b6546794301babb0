pub mod Offers
pub mod Held
