-- Small programs, by computation: what no pass makes yet.
use Rattle.std.proofs.Common.{◌≡◌, ℕ, [], ◌∷◌, refl}
use Rattle.std.specs.Prelude.{pos}
use Rattle.first_values.specs.of_mlc_runs.Outcome.{ended, wrong, going}
use Rattle.mlc_base.specs.declared.place.Place.{Place}
use Rattle.mlc_prims.specs.declared.basis.BasisPrimitive.TheVariants.{Subtract}
use Rattle.first_values.specs.Operations.{Tables, an_int, a_text, ints, constant, print, is}
use Rattle.ir_ssa.specs.Tree.{Body, Program, plain, make, attempt, label, again, guard, goto, jump, branch, ret, raise}
use Rattle.ir_ssa.specs.Meaning.{meaning}

abbrev there : Place
there = record { file = 0; byte = 8 }

abbrev tables : Tables
tables = record { initial = 40 ∷ 41 ∷ 42 ∷ 43 ∷ 44 ∷ 45 ∷ 46 ∷ []; strings = (66 ∷ []) ∷ []; types = []; sets = [] }

abbrev with_main : Body → Program
with_main b = record { tables = tables; funs = record { params = []; body = b } ∷ [] }

-- prints, and gives what that gives
abbrev prints : Body
prints = plain (constant (a_text 0)) [] 30 (plain print (30 ∷ []) 31 (ret 31))

-- down from n: each time round takes a turn
abbrev loop : ℕ → Program
loop n = with_main (again (3 ∷ []) (branch (is (an_int (pos 0))) (3 ∷ []) prints (plain (constant (an_int (pos 1))) [] 4 (attempt ints Subtract (3 ∷ 4 ∷ []) 5 (jump there 0 (5 ∷ [])) (raise 5)))) (plain (constant (an_int (pos n))) [] 1 (jump there 0 (1 ∷ []))))

goes_round : meaning (loop 2) 3 ≡ record { output = 66 ∷ []; end = ended; turns = there ∷ there ∷ there ∷ [] }
goes_round = refl

is_cut : meaning (loop 2) 2 ≡ record { output = []; end = going; turns = there ∷ there ∷ [] }
is_cut = refl

-- a goto to a loop is wrong: it would take no turn
no_turn : meaning (with_main (again [] (goto 0 []) (goto 0 []))) 5 ≡ record { output = []; end = wrong; turns = [] }
no_turn = refl

-- the label of a guard leaves its handler: what comes then raises to the caller
leaves : meaning (with_main (label (1 ∷ []) (ret 1) (guard 0 (make 0 [] 2 (goto 0 (2 ∷ []))) 3 prints))) 0 ≡ record { output = []; end = ended; turns = [] }
leaves = refl

-- inside its handler a function doesn't return
no_return : meaning (with_main (label (1 ∷ []) (ret 1) (guard 0 (make 0 [] 2 (ret 2)) 3 prints))) 0 ≡ record { output = []; end = wrong; turns = [] }
no_return = refl
