pub use Rattle.ty_core.proofs.of_mlc_names as of_mlc_names
pub use Rattle.ty_core.proofs as of_ty_core
pub mod Building
pub mod Coding
pub mod Keeping
pub mod Viewing
