mod Examples
pub mod Floors
