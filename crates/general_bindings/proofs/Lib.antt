pub use Rattle.pattern_tests.proofs.of_match_types as of_match_types
pub use Rattle.exp_blocks.proofs as of_exp_blocks
pub use Rattle.exp_blocks.proofs.of_exp_steps as of_exp_steps
pub use Rattle.pattern_tests.proofs as of_pattern_tests
pub use Rattle.pattern_tests.proofs.of_match_steps as of_match_steps
pub mod Rows
pub mod Placing
pub mod Splitting
pub mod Recording
