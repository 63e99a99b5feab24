-- New variables.
use Rattle.std.specs.Prelude.{ℕ, suc, List, [], ◌∷◌}

-- as many as these, from m on
abbrev pub numbers_from : ℕ → List ℕ → List ℕ
numbers_from m [] = []
numbers_from m (q ∷ ps) = m ∷ numbers_from (suc m) ps
