pub use Rattle.match_pass.specs.of_ir_prog as of_ir_prog
pub mod Closed
pub mod Counted
pub mod Elaborated
pub mod Standard
