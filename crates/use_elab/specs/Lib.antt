pub mod Elaborated
pub mod Fresh
