pub mod Seen
pub mod Found
pub mod Picked
pub mod Repeats
