pub use Rattle.word_arithmetic.specs as of_word_arithmetic
pub mod Laws
pub mod LitOf
pub mod PrimOf
pub mod Table
