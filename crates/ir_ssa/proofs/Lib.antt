pub use Rattle.first_values.proofs.of_ir_values as of_ir_values
pub mod FuelLemmas
mod Examples
