pub use Rattle.closure_whole.proofs as of_closure_whole
pub mod Tables
pub mod Numbers
pub mod Scoped
pub mod Misses
pub mod Formed
