-- What curried functions give, by computation.
use Rattle.std.proofs.Common.{◌≡◌, ℕ, [], ◌∷◌, refl}
use Rattle.plain_tree.specs.declared.tree.Parameter.{Parameter}
use Rattle.closure_convert.specs.Scope.{alone, those}
use Rattle.capture_table.specs.Told.{entry}
use Rattle.capture_table.specs.Levels.{levels}

abbrev parameter : ℕ → Parameter
parameter x = record { variable = x; ty = 0 }

-- 9 is captured, and 1 and 3 of the parameters are used
some-are-used : levels (3 ∷ 9 ∷ 1 ∷ []) (parameter 1 ∷ parameter 2 ∷ parameter 3 ∷ []) (parameter 4) (9 ∷ [])
    ≡ entry 2 (those 0 1 ∷ alone 1 ∷ []) (9 ∷ 1 ∷ []) ∷ entry 3 (those 0 2 ∷ []) (9 ∷ 1 ∷ []) ∷ entry 4 (those 0 2 ∷ alone 3 ∷ []) (9 ∷ 1 ∷ 3 ∷ []) ∷ []
some-are-used = refl

nothing-is-captured-first : levels (2 ∷ []) (parameter 1 ∷ parameter 2 ∷ []) (parameter 3) [] ≡ entry 2 [] [] ∷ entry 3 (alone 2 ∷ []) (2 ∷ []) ∷ []
nothing-is-captured-first = refl
