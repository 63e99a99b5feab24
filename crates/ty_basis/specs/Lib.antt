pub use Rattle.mlc_prims.specs as of_mlc_prims
pub use Rattle.ty_core.specs as of_ty_core
pub mod Types
pub mod Primitives
pub mod Laws
