pub mod ImageOf
pub mod Assembled
