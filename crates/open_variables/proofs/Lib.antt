pub mod Limits
pub mod Looking
pub mod Searching
