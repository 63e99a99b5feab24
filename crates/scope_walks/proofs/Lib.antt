pub mod Nodes
pub mod Typed
pub mod Walking
