pub mod OwnSteps
pub mod Equals
pub mod Numbers
pub mod Lines
