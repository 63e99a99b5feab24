pub mod Sizes
pub mod Uses
