pub use Rattle.mono_state.proofs as of_mono_state
pub mod Wanting
pub mod Keeping
pub mod Numbers
pub mod Walking
