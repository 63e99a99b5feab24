pub use Rattle.elab_steps.proofs as of_elab_steps
pub use Rattle.elab_steps.proofs.of_elab_state as of_elab_state
pub use Rattle.elab_steps.proofs.of_elab_typed as of_elab_typed
pub mod Reading
pub mod Giving
pub mod Contents
