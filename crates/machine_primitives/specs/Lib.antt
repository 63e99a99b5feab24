pub use Rattle.machine_code.specs.of_ir_ssa as of_ir_ssa
pub use Rattle.machine_code.specs as of_machine_code
pub use Rattle.machine_code.specs.of_machine_routines as of_machine_routines
pub mod RowLaws
pub mod RowCode
pub mod Laws
