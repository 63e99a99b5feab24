pub use Rattle.core_elab.proofs as of_core_elab
pub mod Resolving
pub mod Names
pub mod Checking
pub mod Under
pub mod Closed
pub mod Instancing
pub mod Vals
pub mod Typing
pub mod Whole
pub mod Example
mod Datatypes
mod Handled
pub mod Standing
