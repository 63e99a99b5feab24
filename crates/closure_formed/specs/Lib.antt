pub use Rattle.closure_whole.specs as of_closure_whole
pub mod Tables
pub mod Laws
