pub mod Setting
pub mod Turning
pub mod Calls
pub mod Running
pub mod PartLines
pub mod PlanFronts
pub mod Joining
pub mod Assembling
