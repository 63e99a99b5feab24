pub mod Members
pub mod Routines
