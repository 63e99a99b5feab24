pub mod Rolls
pub mod Parts
pub mod Alone
