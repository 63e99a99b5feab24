pub use Rattle.word_arithmetic.proofs as of_word_arithmetic
mod Examples
mod Rows
