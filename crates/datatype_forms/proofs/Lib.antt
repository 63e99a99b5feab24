pub use Rattle.dec_forms.proofs as of_dec_forms
pub mod Going
pub mod Alike
pub mod Marking
pub mod Equalities
pub mod StandingRows
pub mod Stepping
pub mod Variables
pub mod Collecting
pub mod InNames
pub mod Writing
pub mod Abbreviating
pub mod Best
pub mod Bringing
pub mod Declaring
pub mod Ranges
pub mod Constructing
