pub mod Keeping
mod Placing
