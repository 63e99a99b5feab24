pub use Rattle.basis_context.specs as of_basis_context
pub use Rattle.final_types.specs as of_final_types
pub mod Finished
pub mod Laws
