pub use Rattle.closure_parts.specs as of_closure_parts
pub use Rattle.closure_parts.specs.of_capture_table as of_capture_table
pub use Rattle.closure_parts.specs.of_closure_whole as of_closure_whole
pub use Rattle.closure_parts.specs.of_flow_types as of_flow_types
pub mod Reads
pub mod Cases
pub mod Steps
