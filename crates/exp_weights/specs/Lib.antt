pub mod Nodes
pub mod Own
pub mod Sums
pub mod Whole
