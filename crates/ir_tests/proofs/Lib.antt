pub use Rattle.tests_check.proofs as of_tests_check
pub mod Known
pub mod Right
pub mod Once
pub mod Checks
