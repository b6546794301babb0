pub mod Serving
pub mod Restarting
