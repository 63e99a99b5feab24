pub mod Logs
pub mod Environments
pub mod Lists
pub mod Onto
