pub use Rattle.closure_formed.specs.of_closure_whole as of_closure_whole
pub use Rattle.mono_form.specs as of_mono_form
pub mod Given
pub mod Laws
