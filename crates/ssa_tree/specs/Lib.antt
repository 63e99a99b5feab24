pub mod TreeOf
pub mod Exceptions
