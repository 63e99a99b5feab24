pub use Rattle.capture_table.specs as of_capture_table
pub use Rattle.flow_types.specs as of_flow_types
pub use Rattle.flow_types.specs.of_closure_whole as of_closure_whole
pub mod Pieces
pub mod Indexed
pub mod Tagged
pub mod Settings
pub mod Puts
pub mod Named
pub mod Stamps
