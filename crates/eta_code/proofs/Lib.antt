pub mod Wholes
pub mod Building
pub mod Stepping
pub mod Nodes
pub mod Walks
