-- The end of a `val`.
use Rattle.std.specs.Prelude.{◌≡◌, ℕ, ◌-◌, List, ◌++◌, drop, length}
use Rattle.sml_tree.specs.BareTree.{Binds}
use Rattle.sml_tree.specs.declared.ident.Vid.{Vid}
use Rattle.core_rules.specs.Unbound.{rec_names}
use Rattle.core_rules.specs.Values.{Env, plus}
use Rattle.name_scopes.specs.Covering.{Brings, Covers}
use Rattle.name_scopes.specs.Patterns.{AreVariables}
use Rattle.name_scopes.specs.declared.bound.Bound.{Bound}

-- all but the first n is left, and then these variables come into scope, with what is behind `rec`
pub record Closes (last new : List Bound) (vids : List Vid) (n : ℕ) (rs : Binds) : Type 0 where
  pub more : List Bound
  pub is : new ≡ more ++ drop (length last - n) last
  pub brings : (e d : Env) → Covers (drop (length last - n) last) e → AreVariables vids d → Brings more (plus d (rec_names rs))
