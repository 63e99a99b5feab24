pub use Rattle.pat_elab.specs as of_pat_elab
pub use Rattle.pat_elab.specs.of_elab_context as of_elab_context
pub use Rattle.use_elab.specs as of_use_elab
pub mod Binding
pub mod Within
pub mod Parts
pub mod Calls
pub mod Joints
pub mod Rules
pub mod Constructed
pub mod Chains
pub mod Lists
pub mod Choices
pub mod Parameters
pub mod Functions
pub mod Clauses
pub mod Begun
