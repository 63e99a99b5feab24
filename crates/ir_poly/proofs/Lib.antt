pub use Rattle.ty_basis.proofs.of_mlc_prims as of_mlc_prims
pub use Rattle.label_rows.proofs.of_mlc_names as of_mlc_names
pub use Rattle.ir_plain.proofs as of_ir_plain
pub use Rattle.ir_plain.proofs.of_ir_values as of_ir_values
pub mod ProgExamples
pub mod ReplaceLemmas
pub mod TypedLemmas
pub mod ProgTypedLemmas
pub mod MissLemmas
pub mod TypingExamples
pub mod TestsExamples
pub mod SaidLemmas
