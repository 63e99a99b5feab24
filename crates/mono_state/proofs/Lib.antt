pub use Rattle.mono_words.proofs as of_mono_words
pub mod Growing
pub mod Going
pub mod Naming
pub mod Noting
pub mod Standing
pub mod Listing
