pub mod Same
pub mod Scopes
pub mod Counts
pub mod Binders
pub mod Fits
mod Examples
pub mod Exceptions
mod Constructs
mod LongLoop
