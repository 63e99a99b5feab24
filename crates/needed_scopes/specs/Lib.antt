pub mod Scopes
pub mod Reads
