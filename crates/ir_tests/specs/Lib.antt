pub use Rattle.tests_check.specs as of_tests_check
pub mod Laws
pub mod Programs
