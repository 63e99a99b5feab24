pub use Rattle.dec_forms.proofs as of_dec_forms
pub use Rattle.dec_forms.proofs.of_exp_forms as of_exp_forms
pub mod Scoping
pub mod Opening
pub mod Opened
pub mod Replicating
pub mod Refusing
