pub mod Expand
pub mod Laws
