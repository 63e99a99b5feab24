pub use Rattle.mlc_names.proofs as of_mlc_names
pub mod Mapped
pub mod Merging
