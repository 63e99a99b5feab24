pub use Rattle.closure_bodies.specs.of_closure_parts as of_closure_parts
pub use Rattle.closure_bodies.specs.of_flow_types as of_flow_types
pub mod Codes
pub mod Held
pub mod Made
pub mod Same
pub mod Shapes
