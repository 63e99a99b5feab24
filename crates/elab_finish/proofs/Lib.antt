pub mod Ending
pub mod Right
