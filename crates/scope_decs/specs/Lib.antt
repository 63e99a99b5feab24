pub use Rattle.dec_forms.specs as of_dec_forms
pub use Rattle.dec_forms.specs.of_exp_forms as of_exp_forms
pub mod Refusals
pub mod Opening
