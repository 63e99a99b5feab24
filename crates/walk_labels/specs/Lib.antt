pub mod Labels
pub mod Marks
