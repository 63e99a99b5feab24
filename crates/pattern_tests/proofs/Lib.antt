pub use Rattle.match_steps.proofs.of_match_types as of_match_types
pub use Rattle.match_steps.proofs as of_match_steps
pub mod Doing
pub mod Nodes
pub mod Chains
pub mod ByNode
pub mod Loops
