pub mod Falling
pub mod Respects
pub mod Graph
pub mod Holding
