pub use Rattle.ty_core.specs.of_mlc_names as of_mlc_names
pub use Rattle.ty_core.specs as of_ty_core
pub mod TypeAt
pub mod Codes
pub mod Variables
pub mod Nodes
