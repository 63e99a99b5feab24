pub mod Agreeing
pub mod Listing
pub mod Telling
pub mod Whole
pub mod Being
pub mod Making
