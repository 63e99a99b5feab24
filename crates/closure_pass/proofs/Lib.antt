pub use Rattle.closure_formed.proofs.of_closure_whole as of_closure_whole
pub use Rattle.mono_form.proofs as of_mono_form
pub mod Bringing
pub mod Keeping
pub mod Passing
