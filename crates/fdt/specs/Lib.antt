pub mod Blobs
pub mod Items
pub mod Left
pub mod Reads
pub mod Stands
pub mod Tokens
pub mod Unread
