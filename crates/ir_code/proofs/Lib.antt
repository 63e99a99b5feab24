pub mod Checks
pub mod Cuts
mod Examples
pub mod Exact
pub mod Images
pub mod Keeps
pub mod Rows
pub mod Runs
pub mod Unique
