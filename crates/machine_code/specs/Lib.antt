pub use Rattle.ir_ssa.specs as of_ir_ssa
pub use Rattle.machine_routines.specs as of_machine_routines
pub mod Rows
pub mod Agrees
pub mod Code
pub mod Image
pub mod Law
pub mod Sizes
