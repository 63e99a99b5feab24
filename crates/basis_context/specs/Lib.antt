pub mod Basis
pub mod Telling
