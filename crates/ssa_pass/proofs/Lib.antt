pub mod Steps
pub mod Arms
pub mod Kept
