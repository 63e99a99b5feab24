pub use Rattle.exp_steps.proofs as of_exp_steps
pub mod Growing
pub mod Holding
pub mod Binding
