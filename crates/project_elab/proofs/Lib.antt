pub mod Showing
pub mod Hiding
pub mod Standing
pub mod Closing
pub mod Sources
pub mod Finishing
pub mod Examples
