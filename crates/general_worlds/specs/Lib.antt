pub mod Tidy
pub mod Inner
pub mod Laws
