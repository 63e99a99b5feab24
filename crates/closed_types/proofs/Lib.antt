pub use Rattle.elab_steps.proofs as of_elab_steps
pub mod Entering
