pub use Rattle.core_elab.specs as of_core_elab
pub mod Numbers
pub mod Contexts
pub mod Instances
pub mod Elaborates
pub mod Laws
