pub use Rattle.elab_typed.specs as of_elab_typed
pub use Rattle.elab_typed.specs.of_core_elab as of_core_elab
pub use Rattle.prog_tree.specs as of_prog_tree
pub use Rattle.prog_tree.specs.of_ir_poly as of_ir_poly
pub use Rattle.prog_tree.specs.of_ir_tables as of_ir_tables
pub use Rattle.ty_instance.specs as of_ty_instance
pub mod Namings
pub mod Props
pub mod Readings
pub mod States
pub mod Generic
pub mod Steps
pub mod Generalising
pub mod Laws
