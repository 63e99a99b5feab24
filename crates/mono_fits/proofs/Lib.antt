pub use Rattle.prog_check.proofs as of_prog_check
pub mod Deciding
pub mod Primitives
pub mod Known
pub mod Right
pub mod Found
