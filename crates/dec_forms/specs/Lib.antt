pub use Rattle.exp_forms.specs as of_exp_forms
pub use Rattle.exp_forms.specs.of_pat_elab as of_pat_elab
pub use Rattle.exp_forms.specs.of_use_elab as of_use_elab
pub mod Decs
pub mod Telling
pub mod Entries
pub mod Bringing
pub mod Laws
pub mod Binds
pub mod Exceptions
pub mod Local
pub mod Abbreviations
