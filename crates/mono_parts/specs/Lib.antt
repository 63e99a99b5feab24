pub use Rattle.tests_check.specs as of_tests_check
pub use Rattle.mono_state.specs as of_mono_state
pub mod Operations
pub mod Arms
pub mod Steps
