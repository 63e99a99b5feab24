pub use Rattle.mlc_runs.specs.of_mlc_names as of_mlc_names
pub use Rattle.mlc_prims.specs as of_mlc_prims
pub use Rattle.mlc_runs.specs as of_mlc_runs
pub mod Tags
pub mod Values
pub mod Match
pub mod Equality
pub mod Primitives
pub mod Related
pub mod Laws
