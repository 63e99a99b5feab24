pub use Rattle.machine_primitives.specs as of_machine_primitives
pub use Rattle.machine_primitives.specs.of_machine_code as of_machine_code
pub mod Table
pub mod Law
