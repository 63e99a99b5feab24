pub use Rattle.ir_mono.specs.of_ir_plain as of_ir_plain
pub use Rattle.ir_mono.specs as of_ir_mono
pub mod Member
pub mod Flow
pub mod ByType
pub mod Laws
