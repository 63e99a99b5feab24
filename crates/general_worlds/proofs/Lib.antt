pub mod Scoping
pub mod Admitting
pub mod Worlds
pub mod Telling
pub mod General
pub mod Declaring
pub mod Contexts
