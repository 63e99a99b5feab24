pub use Rattle.exp_steps.specs as of_exp_steps
pub mod Giving
pub mod Binding
