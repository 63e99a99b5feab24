pub use Rattle.label_rows.specs.of_mlc_names as of_mlc_names
pub use Rattle.ir_plain.specs as of_ir_plain
pub use Rattle.ir_plain.specs.of_ir_values as of_ir_values
pub use Rattle.ir_plain.specs.of_mlc_prims as of_mlc_prims
pub use Rattle.ir_plain.specs.of_mlc_runs as of_mlc_runs
pub use Rattle.ty_basis.specs.of_ty_core as of_ty_core
pub mod Prog
pub mod ProgMeaning
pub mod ProgOnce
pub mod ProgWeight
pub mod Tests
pub mod Types
pub mod TestsChecked
pub mod TestsTyped
pub mod ProgChecked
pub mod ProgTyped
pub mod WellFormed
pub mod Laws
