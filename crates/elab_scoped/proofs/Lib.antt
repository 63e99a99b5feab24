pub mod Types
pub mod Phrases
