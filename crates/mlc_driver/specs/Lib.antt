pub use Rattle.project_elab.specs.of_ir_prog as of_ir_prog
pub mod Checked
pub mod Fault
pub mod Parts
pub mod Preludes
pub mod Same
