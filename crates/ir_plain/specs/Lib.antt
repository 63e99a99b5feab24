pub use Rattle.ir_values.specs as of_ir_values
pub use Rattle.ir_values.specs.of_mlc_names as of_mlc_names
pub use Rattle.ir_values.specs.of_mlc_prims as of_mlc_prims
pub use Rattle.ir_values.specs.of_mlc_runs as of_mlc_runs
pub mod Kind
pub mod Tree
pub mod Meaning
pub mod Copies
pub mod Once
pub mod Unique
pub mod Scoped
pub mod Weight
pub mod Laws
