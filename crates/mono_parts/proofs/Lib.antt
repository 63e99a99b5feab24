pub use Rattle.tests_check.proofs as of_tests_check
pub use Rattle.mono_state.proofs as of_mono_state
pub mod Putting
pub mod Lists
pub mod Acts
pub mod Scopes
pub mod Stripping
