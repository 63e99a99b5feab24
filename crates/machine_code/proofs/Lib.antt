pub use Rattle.ir_ssa.proofs as of_ir_ssa
pub use Rattle.machine_routines.proofs as of_machine_routines
pub mod RoutineLaws
pub mod Kept
pub mod Grows
pub mod Sim
pub mod Slots
pub mod Vars
pub mod Pieces
pub mod Primitives
pub mod Ops
pub mod Sizes
pub mod Runs
pub mod Tests
pub mod Here
pub mod Sets
pub mod Switches
pub mod Bodies
pub mod Constants
pub mod Right
pub mod Bounds
mod Examples
