pub use Rattle.ir_poly.specs.of_mlc_prims as of_mlc_prims
pub use Rattle.ty_table.specs.of_ty_core as of_ty_core
pub use Rattle.ir_poly.specs as of_ir_poly
pub use Rattle.ir_poly.specs.of_ir_plain as of_ir_plain
pub use Rattle.ty_table.specs as of_ty_table
pub mod Rows
pub mod Tables
