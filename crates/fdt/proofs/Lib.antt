pub mod Fronts
pub mod Onward
pub mod Padding
pub mod Standing
