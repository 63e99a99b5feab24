pub use Rattle.elab_steps.specs as of_elab_steps
pub use Rattle.elab_steps.specs.of_elab_state as of_elab_state
pub mod Parameters
