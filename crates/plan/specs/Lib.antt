pub mod Controllers
pub mod Drafts
pub mod Placings
pub mod Plans
pub mod Rules
pub mod Seen
