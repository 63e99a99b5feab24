pub use Rattle.ir_prog.specs as of_ir_prog
pub mod Names
pub mod Nodes
pub mod Bounds
pub mod Images
pub mod Making
pub mod Ended
pub mod Programs
