pub use Rattle.match_steps.proofs as of_match_steps
pub use Rattle.match_steps.proofs.of_match_types as of_match_types
pub mod Ordered
pub mod Leaves
pub mod Nodes
pub mod Fields
pub mod Building
pub mod Heads
pub mod Counting
