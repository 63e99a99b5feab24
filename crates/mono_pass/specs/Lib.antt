pub use Rattle.mono_form.specs.of_mono_operations as of_mono_operations
pub use Rattle.mono_form.specs as of_mono_form
pub mod Extending
pub mod Made
