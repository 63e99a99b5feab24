pub use Rattle.mlc_names.specs as of_mlc_names
pub mod Agreement
pub mod MoreTurns
pub mod Outcome
pub mod Passes
pub mod Refinement
pub mod Run
