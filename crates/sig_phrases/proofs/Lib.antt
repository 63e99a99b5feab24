pub mod Running
pub mod Separated
pub mod Starts
pub mod Growth
pub mod Specs
pub mod Ids
