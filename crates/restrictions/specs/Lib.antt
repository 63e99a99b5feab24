pub mod Breaks
pub mod Found
pub mod Keys
pub mod Nodes
pub mod Scopes
pub mod Written
