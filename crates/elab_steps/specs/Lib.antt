pub use Rattle.elab_state.specs as of_elab_state
pub use Rattle.elab_state.specs.of_core_elab as of_core_elab
pub use Rattle.elab_state.specs.of_elab_typed as of_elab_typed
pub use Rattle.elab_state.specs.of_ir_poly as of_ir_poly
pub use Rattle.elab_state.specs.of_ir_tables as of_ir_tables
pub use Rattle.elab_types.specs as of_elab_types
pub mod Tidy
pub mod Ordered
pub mod World
pub mod Growing
pub mod Instances
pub mod Rows
pub mod Flexible
