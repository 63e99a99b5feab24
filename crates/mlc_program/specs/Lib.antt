pub mod Command
pub mod CommandOf
pub mod Exits
pub mod Outside
pub mod Running
pub mod Statuses
