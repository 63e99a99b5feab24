pub mod Convert
pub mod Whole
