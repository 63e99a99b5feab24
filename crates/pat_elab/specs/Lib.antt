pub use Rattle.elab_context.specs as of_elab_context
pub use Rattle.elab_context.specs.of_elab_state as of_elab_state
pub use Rattle.elab_context.specs.of_elab_steps as of_elab_steps
pub mod Elaborated
pub mod Matched
pub mod Fields
pub mod Chains
pub mod Lists
