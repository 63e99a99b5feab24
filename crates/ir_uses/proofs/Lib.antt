pub use Rattle.prog_check.proofs as of_prog_check
pub mod Deciding
pub mod Putting
pub mod Exceptions
pub mod Lists
pub mod Constructing
pub mod Initial
pub mod Records
pub mod Describing
pub mod UseLemmas
pub mod ClassLemmas
pub mod Knowing
pub mod Tabling
