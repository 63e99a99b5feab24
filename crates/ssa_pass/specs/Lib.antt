pub mod Built
pub mod Bounds
