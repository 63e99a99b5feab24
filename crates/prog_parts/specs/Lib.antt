pub use Rattle.prog_binds.specs as of_prog_binds
pub mod Patterns
pub mod Expressions
pub mod Laws
