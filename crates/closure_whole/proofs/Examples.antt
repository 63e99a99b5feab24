-- Whole ways of programs by computation: a constructor, a primitive and an exception that are called as functions.
use Rattle.std.proofs.Common.{◌≡◌, ℕ, List, [], ◌∷◌, map, refl}
use Rattle.mlc_runs.specs.Outcome.{ended, uncaught, Outcome}
use Rattle.ir_first.specs.Meaning as first
use Rattle.eta_expand.proofs.Examples.{at, E, of_body, constructs, joins, raises}
use Rattle.closure_whole.specs.Constants.{AreHeld}
use Rattle.closure_whole.specs.Tags.{tag_by}
use Rattle.closure_whole.specs.Whole.{without_functions}

abbrev strings : List (List ℕ)
strings = (104 ∷ []) ∷ (105 ∷ []) ∷ []

abbrev does : E → ℕ → Outcome
does e m = first.meaning (without_functions strings (of_body e)) m

constructs-one : does constructs 1 ≡ record { output = []; end = ended; turns = at 7 ∷ [] }
constructs-one = refl

joins-two : does joins 2 ≡ record { output = 104 ∷ 105 ∷ []; end = ended; turns = at 7 ∷ at 8 ∷ [] }
joins-two = refl

raises-it : does raises 1 ≡ record { output = []; end = uncaught 77; turns = at 7 ∷ [] }
raises-it = refl

-- tags by sets of which no two have a function, and by those of which two have one
abbrev sets : List (List ℕ)
sets = (5 ∷ 7 ∷ 40 ∷ []) ∷ [] ∷ (6 ∷ 39 ∷ []) ∷ []

tags-by-set : map (tag_by sets) (5 ∷ 7 ∷ 40 ∷ 6 ∷ 39 ∷ []) ≡ 0 ∷ 1 ∷ 2 ∷ 0 ∷ 1 ∷ []
tags-by-set = refl

tags-are-numbers : map (tag_by ((7 ∷ []) ∷ sets)) (5 ∷ 7 ∷ 40 ∷ 6 ∷ 39 ∷ []) ≡ 5 ∷ 7 ∷ 40 ∷ 6 ∷ 39 ∷ []
tags-are-numbers = refl

-- the constants of the second are held by the table
joins-held : AreHeld strings joins
joins-held = (tt, ((0, refl), ((1, refl), (tt, (tt, (tt, (tt, tt)))))))
