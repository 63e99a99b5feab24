pub use Rattle.emit_parts.proofs as of_emit_parts
pub mod Steps
pub mod Walking
pub mod Parts
pub mod Rolls
pub mod Turns
pub mod Whole
pub mod Ends
pub mod Sizes
pub mod WalkMarks
pub mod Nodes
pub mod Closing
pub mod Opening
