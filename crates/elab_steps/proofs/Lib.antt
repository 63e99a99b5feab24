pub use Rattle.elab_state.proofs as of_elab_state
pub use Rattle.elab_state.proofs.of_elab_typed as of_elab_typed
pub use Rattle.elab_state.proofs.of_ty_instance as of_ty_instance
pub use Rattle.elab_types.proofs as of_elab_types
pub mod Annotating
pub mod Keeping
pub mod Growing
pub mod Changing
pub mod Instancing
pub mod Sorting
pub mod Opening
pub mod Bounding
pub mod Flexing
