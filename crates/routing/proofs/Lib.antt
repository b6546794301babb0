pub mod Routes
pub mod Taking
