pub use Rattle.core_rules.specs as of_core_rules
pub use Rattle.ty_instance.specs.of_ty_solve as of_ty_solve
pub mod Reading
pub mod Building
pub mod Annotations
pub mod Whole
