pub use Rattle.ir_prog.specs as of_ir_prog
pub mod Kinds
pub mod Reading
pub mod Going
pub mod Heads
pub mod Chains
pub mod Declaring
pub mod Apart
pub mod Programs
pub mod Typed
