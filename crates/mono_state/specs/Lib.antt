pub use Rattle.mono_words.specs as of_mono_words
pub mod Seen
pub mod Going
