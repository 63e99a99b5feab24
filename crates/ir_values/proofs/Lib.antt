pub use Rattle.mlc_runs.proofs.of_mlc_names as of_mlc_names
pub use Rattle.mlc_prims.proofs as of_mlc_prims
pub use Rattle.mlc_runs.proofs as of_mlc_runs
pub mod EqualityLemmas
pub mod PrimitiveLemmas
pub mod MatchLemmas
pub mod Examples
