pub use Rattle.capture_table.proofs as of_capture_table
pub mod Rolls
pub mod Putting
pub mod Finding
pub mod Closures
pub mod Operating
pub mod Numbered
pub mod Whole
pub mod TextMap
pub mod NameMap
pub mod Tagging
