mod Finding
mod Maps
mod Drawing
mod Steps
pub mod Elements
pub mod KindWidths
pub mod Facts
pub mod Keeping
pub mod PlanLines
pub mod Seats
pub mod Ruling
