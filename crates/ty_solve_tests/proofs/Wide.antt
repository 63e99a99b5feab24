-- A list of one number.
use Rattle.std.proofs.Common.{◌≡◌, ◌<◌, ◌++◌, ℕ, List, [], ◌∷◌, sym, subst}
use Rattle.ty_table.specs.TypeAt.{AllBelow}

pub below-snoc : (n : ℕ) (l new : List ℕ) (k : ℕ) → new ≡ l ++ k ∷ [] → (k < n → AllBelow n l) → k < n → AllBelow n new
below-snoc n l new k e h lt = subst (AllBelow n) (sym e) (go l (h lt))
  where
    go : (l : List ℕ) → AllBelow n l → AllBelow n (l ++ k ∷ [])
    go [] a = (lt, tt)
    go (j ∷ l) a = (a.0, go l a.1)
