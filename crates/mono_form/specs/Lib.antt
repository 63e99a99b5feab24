pub use Rattle.mono_check.specs.of_mono_operations as of_mono_operations
pub use Rattle.mono_tree.specs as of_mono_tree
pub mod Parts
pub mod Programs
