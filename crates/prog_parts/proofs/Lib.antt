pub mod Checks
pub mod Holding
pub mod Loops
pub mod Truths
