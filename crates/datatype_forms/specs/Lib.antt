pub use Rattle.dec_forms.specs as of_dec_forms
pub mod ProgramTypes
pub mod Arguments
pub mod Steps
pub mod Reading
pub mod Abbreviated
pub mod Best
pub mod Made
pub mod Constructed
pub mod Declaration
pub mod Standing
