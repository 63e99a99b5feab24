pub use Rattle.elab_steps.specs as of_elab_steps
pub use Rattle.elab_steps.specs.of_elab_state as of_elab_state
pub use Rattle.elab_steps.specs.of_elab_typed as of_elab_typed
pub mod Schemes
pub mod Entries
pub mod Numbered
pub mod Telling
