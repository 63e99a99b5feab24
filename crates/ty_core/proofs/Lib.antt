pub use Rattle.mlc_names.proofs as of_mlc_names
pub mod Classes
pub mod Functions
mod Examples
