pub mod Uncaught
pub mod Texts
