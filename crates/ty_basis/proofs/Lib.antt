pub use Rattle.mlc_prims.proofs as of_mlc_prims
pub use Rattle.ty_core.proofs as of_ty_core
pub mod NameLemmas
pub mod RowLemmas
