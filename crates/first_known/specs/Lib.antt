pub mod Logs
pub mod Takings
pub mod Rows
