pub use Rattle.mlc_names.proofs as of_mlc_names
pub mod RunLaws
pub mod MoreTurnsLaws
pub mod RefineLaws
pub mod PassLaws
mod Examples
