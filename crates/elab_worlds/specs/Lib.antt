pub mod Worlds
pub mod Final
