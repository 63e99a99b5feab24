pub mod Becoming
pub mod Reaching
pub mod Typed
