pub mod Texts
pub mod Assembling
