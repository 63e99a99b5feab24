pub use Rattle.match_steps.specs.of_match_types as of_match_types
pub use Rattle.match_steps.specs as of_match_steps
pub mod Spots
pub mod Tasks
pub mod Parts
