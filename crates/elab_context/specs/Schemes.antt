-- Schemes by number.
use Rattle.std.specs.Prelude.{List}
use Rattle.elab_context.specs.declared.entry.Scheme as code

-- the first of them has the number 0
pub record SchemeList : Type 0 where
  pub items : List code.Scheme
