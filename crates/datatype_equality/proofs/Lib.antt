pub mod Falls
pub mod Graphs
pub mod Made
pub mod Resting
pub mod Opening
pub mod Answering
mod Examples
