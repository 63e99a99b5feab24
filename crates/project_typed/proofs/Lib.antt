pub mod Resolving
pub mod Checking
pub mod Typing
pub mod Whole
pub mod Appending
mod Example
