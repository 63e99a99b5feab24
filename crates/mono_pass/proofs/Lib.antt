pub use Rattle.mono_form.proofs.of_mono_operations as of_mono_operations
pub use Rattle.mono_form.proofs as of_mono_form
pub mod Starting
pub mod Made
pub mod Parts
pub mod Passed
