pub mod Bytes
pub mod Pieces
pub mod Runs
pub mod Sent
pub mod Sinks
pub mod Tells
pub mod Writes
