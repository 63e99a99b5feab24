pub use Rattle.mono_state.specs.of_mono_words as of_mono_words
pub use Rattle.mono_state.specs as of_mono_state
pub mod Words
pub mod Building
pub mod Reads
pub mod Laws
