pub use Rattle.match_types.proofs as of_match_types
pub mod Pushed
pub mod Heads
