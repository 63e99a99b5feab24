pub use Rattle.ir_poly.proofs.of_mlc_prims as of_mlc_prims
pub use Rattle.ty_table.proofs.of_ty_core as of_ty_core
pub mod Found
