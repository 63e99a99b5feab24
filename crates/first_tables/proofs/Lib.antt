pub use Rattle.first_values.proofs as of_first_values
