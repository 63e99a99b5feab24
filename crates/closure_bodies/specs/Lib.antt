pub use Rattle.closure_steps.specs.of_capture_table as of_capture_table
pub use Rattle.closure_steps.specs as of_closure_steps
pub use Rattle.closure_steps.specs.of_closure_parts as of_closure_parts
pub use Rattle.closure_steps.specs.of_closure_whole as of_closure_whole
pub use Rattle.closure_steps.specs.of_flow_types as of_flow_types
pub mod Made
