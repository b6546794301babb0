pub mod Listing
pub mod NodeProperties
pub mod Nodes
pub mod Opening
pub mod Phandles
pub mod Reads
