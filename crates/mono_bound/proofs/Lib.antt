pub mod Next
pub mod Agree
