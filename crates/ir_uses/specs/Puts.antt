-- Types that are put for parameters, by number.
use Rattle.std.specs.Prelude.{ℕ, List, [], ◌∷◌, Option, Some, None, nat_eq, if◌then◌else◌}
use Rattle.ty_core.specs.declared.scheme.Quantified.{Quantified}

-- the number that is put for a parameter, if one is
abbrev pub put_for : List Quantified → List ℕ → ℕ → Option ℕ
put_for [] ks v = None
put_for (q ∷ qs) [] v = None
put_for (q ∷ qs) (k ∷ ks) v = if nat_eq q.variable v then Some k else put_for qs ks v
