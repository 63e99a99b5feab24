pub use Rattle.pattern_tests.specs.of_match_types as of_match_types
pub use Rattle.exp_blocks.specs as of_exp_blocks
pub use Rattle.exp_blocks.specs.of_exp_steps as of_exp_steps
pub use Rattle.pattern_tests.specs as of_pattern_tests
pub use Rattle.pattern_tests.specs.of_match_steps as of_match_steps
pub mod General
