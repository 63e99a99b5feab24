pub use Rattle.machine_rows.specs as of_machine_rows
pub use Rattle.machine_rows.specs.of_machine_code as of_machine_code
pub mod Shapes
