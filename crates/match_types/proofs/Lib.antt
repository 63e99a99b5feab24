pub mod Scoping
pub mod Seeing
pub mod Standing
pub mod Images
