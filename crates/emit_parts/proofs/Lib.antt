pub mod Searches
pub mod Blanks
