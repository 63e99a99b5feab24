pub use Rattle.elab_context.proofs as of_elab_context
pub use Rattle.elab_context.proofs.of_elab_steps as of_elab_steps
pub mod Trees
pub mod Leaves
pub mod Forms
pub mod Annotated
pub mod Matching
pub mod Listing
pub mod FieldsDo
pub mod Chains
pub mod ListsDo
pub mod Sources
pub mod Sizes
pub mod Loops
