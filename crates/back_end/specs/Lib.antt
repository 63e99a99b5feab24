pub use Rattle.machine_emit.specs as of_machine_emit
pub use Rattle.match_pass.specs as of_match_pass
pub mod Refusals
pub mod Lowered
pub mod Contract
pub mod Keeping
