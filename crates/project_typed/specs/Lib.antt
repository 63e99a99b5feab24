pub mod Typing
pub mod Elaborates
pub mod Laws
