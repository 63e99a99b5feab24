pub use Rattle.ir_values.specs as of_ir_values
pub use Rattle.ir_values.specs.of_mlc_runs as of_mlc_runs
pub use Rattle.ir_values.specs.of_mlc_prims as of_mlc_prims
pub mod Values
pub mod Equality
pub mod Operations
pub mod Raising
pub mod WellFormed
pub mod Laws
