pub mod Related
pub mod Known
pub mod Tags
pub mod Equality
pub mod Performed
pub mod Handled
pub mod Arms
pub mod Keeps
pub mod Coded
pub mod Run
mod Examples
