pub use Rattle.ty_solve.proofs as of_ty_solve
pub mod Going
pub mod Putting
pub mod Ending
pub mod Renaming
pub mod PuttingFor
