pub mod Filled
pub mod Opening
