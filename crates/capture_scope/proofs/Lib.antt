pub mod Lists
pub mod Seen
pub mod Finding
pub mod Picking
pub mod Repeating
