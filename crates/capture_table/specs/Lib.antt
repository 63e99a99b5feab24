pub mod Told
pub mod Tables
pub mod Inner
pub mod Levels
pub mod Parts
