pub mod Places
pub mod Reports
