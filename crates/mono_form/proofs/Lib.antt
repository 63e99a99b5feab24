pub use Rattle.mono_check.proofs.of_mono_operations as of_mono_operations
pub mod Checks
pub mod Rows
