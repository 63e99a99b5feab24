pub use Rattle.match_compile.specs as of_match_compile
pub mod Bindings
