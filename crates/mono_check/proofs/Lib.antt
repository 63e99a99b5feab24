pub use Rattle.mono_operations.proofs as of_mono_operations
pub mod Lists
pub mod Names
pub mod Openings
pub mod Groups
pub mod Rolls
pub mod Steps
pub mod Exps
pub mod Ends
