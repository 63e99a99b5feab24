pub use Rattle.first_values.specs.of_ir_values as of_ir_values
pub use Rattle.first_values.specs as of_first_values
pub mod Tree
pub mod Meaning
pub mod WellFormed
pub mod Size
pub mod Laws
