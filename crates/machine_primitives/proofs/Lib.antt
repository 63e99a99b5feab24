pub use Rattle.machine_code.proofs.of_ir_ssa as of_ir_ssa
pub use Rattle.machine_code.proofs as of_machine_code
pub mod Shapes
pub mod MoreShapes
pub mod Orders
pub mod Rows
pub mod MoreRows
pub mod LastRows
pub mod IntRows
mod Quotients
mod Window
mod Divisions
mod TextOrders
mod MoreTexts
mod TextRows
mod TextParts
mod TextJoins
