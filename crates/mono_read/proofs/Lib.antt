pub use Rattle.mono_state.proofs.of_mono_words as of_mono_words
pub mod Rolls
pub mod Built
pub mod Given
pub mod Stacked
