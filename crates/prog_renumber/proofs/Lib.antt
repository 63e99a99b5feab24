pub mod Each
pub mod ExpNodes
pub mod PatternNodes
