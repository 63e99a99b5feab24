pub use Rattle.dec_forms.specs as of_dec_forms
pub mod Chosen
pub mod Settled
pub mod Laws
