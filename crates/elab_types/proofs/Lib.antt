pub use Rattle.ty_instance.proofs.of_ty_solve as of_ty_solve
pub mod Lists
pub mod Keeping
pub mod Trees
pub mod Making
pub mod Parts
pub mod Wholes
pub mod Holding
pub mod Knowing
