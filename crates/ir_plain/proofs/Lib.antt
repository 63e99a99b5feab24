pub use Rattle.ir_values.proofs as of_ir_values
pub mod CopiesLemmas
pub mod UniqueLemmas
pub mod WeightLemmas
pub mod FuelLemmas
pub mod Examples
