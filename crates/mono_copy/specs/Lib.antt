pub mod Puts
pub mod Changes
pub mod Standing
