pub mod Next
pub mod Counts
pub mod Agree
pub mod AgreeOnce
