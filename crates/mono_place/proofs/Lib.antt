pub mod Placed
pub mod Going
