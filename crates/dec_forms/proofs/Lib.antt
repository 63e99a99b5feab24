pub use Rattle.exp_forms.proofs as of_exp_forms
pub use Rattle.exp_forms.proofs.of_pat_elab as of_pat_elab
pub mod After
pub mod Over
pub mod Telling
pub mod Sequencing
pub mod Letting
pub mod Wider
pub mod TellingScope
pub mod Joining
pub mod Effects
pub mod Several
pub mod Coming
pub mod Listed
pub mod Plain
pub mod JoiningBinds
pub mod Knowing
pub mod Declaring
pub mod Behind
pub mod Adding
pub mod DeclaringExceptions
pub mod Sequence
pub mod Showing
pub mod Ending
pub mod Bodies
pub mod DeclaringTypes
