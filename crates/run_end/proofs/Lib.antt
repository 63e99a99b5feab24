pub use Rattle.dec_forms.proofs as of_dec_forms
pub mod Choosing
pub mod Settling
pub mod Worlds
