-- Each construct outside a handler and under one, at several numbers of turns, by computation.
use Rattle.std.proofs.Common.{◌≡◌, ℕ, List, [], ◌∷◌, refl}
use Rattle.std.specs.Prelude.{pos}
use Rattle.mlc_runs.specs.Outcome.{Outcome, ended, going, uncaught}
use Rattle.mlc_prims.specs.declared.basis.BasisPrimitive.TheVariants.{Add, Less}
use Rattle.first_values.specs.Values.{one, run}
use Rattle.first_values.specs.Equality.{numbers}
use Rattle.first_values.specs.Operations.{an_int, a_text, ints, constant, field, refer, content, assign, exception, initial, pack, argument, equal, print, is_of, holds, known}
use Rattle.ir_first.specs.Tree.{Exp, Program, ret, let_in, turn, switch, branch, first, miss, plain, make, attempt, call, block, handle, raise, no_arms, arm}
use Rattle.ir_ssa.specs.Meaning as after
use Rattle.ssa_build.specs.Build.{ssa}
use Rattle.ssa_build.proofs.Examples.{here, there, tables, with_main, prints}

abbrev runs : Exp → ℕ → Outcome
runs e m = after.meaning (ssa (with_main e)) m

-- what prints B where the expression raises
abbrev under : Exp → Exp
under e = let_in 50 (handle e 51 (prints 1)) (ret 50)

abbrev printed : List ℕ → Outcome
printed bytes = record { output = bytes; end = ended; turns = [] }

abbrev cells : Exp
cells = let_in 1 (plain (constant (a_text 0)) []) (let_in 2 (make 3 (one 1 ∷ [])) (let_in 3 (make 5 (run 2 0 1 ∷ one 1 ∷ [])) (let_in 4 (plain (field 1) (3 ∷ [])) (let_in 5 (plain print (4 ∷ [])) (ret 5)))))

cells_outside : runs cells 0 ≡ printed (65 ∷ [])
cells_outside = refl

cells_under : runs (under cells) 0 ≡ printed (65 ∷ [])
cells_under = refl

abbrev references : Exp
references =
    let_in 1 (plain (constant (a_text 0)) []) (let_in 2 (plain refer (1 ∷ [])) (let_in 3 (plain (constant (a_text 1)) []) (let_in 4 (plain assign (2 ∷ 3 ∷ []))
    (let_in 5 (plain content (2 ∷ [])) (let_in 6 (plain print (5 ∷ [])) (ret 6))))))

references_outside : runs references 0 ≡ printed (66 ∷ [])
references_outside = refl

references_under : runs (under references) 0 ≡ printed (66 ∷ [])
references_under = refl

abbrev turns : Exp
turns = turn here (prints 0)

turns_cut : runs turns 0 ≡ record { output = []; end = going; turns = [] }
turns_cut = refl

turns_outside : runs turns 1 ≡ record { output = 65 ∷ []; end = ended; turns = here ∷ [] }
turns_outside = refl

turns_under : runs (under turns) 1 ≡ record { output = 65 ∷ []; end = ended; turns = here ∷ [] }
turns_under = refl

turns_under_cut : runs (under turns) 0 ≡ record { output = []; end = going; turns = [] }
turns_under_cut = refl

abbrev switches : ℕ → Exp
switches tag = let_in 1 (make tag []) (first (switch 1 (arm 0 (prints 0) (arm 1 (prints 1) no_arms))) (ret 1))

switches_first : runs (switches 0) 0 ≡ printed (65 ∷ [])
switches_first = refl

switches_second : runs (under (switches 1)) 0 ≡ printed (66 ∷ [])
switches_second = refl

switches_none : runs (under (switches 2)) 0 ≡ printed []
switches_none = refl

-- what the first of two tries did stays
abbrev tried : Exp
tried =
    let_in 1 (plain (constant (a_text 0)) [])
    (first (let_in 2 (plain print (1 ∷ [])) miss) (let_in 3 (plain print (1 ∷ [])) (ret 3)))

tried_outside : runs tried 0 ≡ printed (65 ∷ 65 ∷ [])
tried_outside = refl

tried_under : runs (under tried) 0 ≡ printed (65 ∷ 65 ∷ [])
tried_under = refl

abbrev sums : ℕ → Exp
sums n =
    let_in 1 (plain (constant (an_int (pos n))) []) (let_in 2 (attempt ints Add (1 ∷ 1 ∷ [])) (let_in 3 (plain (constant (an_int (pos 6))) [])
    (branch (holds ints Less) (2 ∷ 3 ∷ []) (prints 0) (prints 1))))

sums_outside : runs (sums 2) 0 ≡ printed (65 ∷ [])
sums_outside = refl

sums_under : runs (under (sums 3)) 0 ≡ printed (66 ∷ [])
sums_under = refl

too_large : runs (sums 2147483647) 0 ≡ record { output = []; end = uncaught 42; turns = [] }
too_large = refl

too_large_under : runs (under (sums 2147483647)) 0 ≡ printed (66 ∷ [])
too_large_under = refl

abbrev raises : Exp
raises = let_in 1 (plain (exception 9) []) (let_in 2 (make 0 []) (let_in 3 (plain pack (1 ∷ 2 ∷ [])) (let_in 4 (raise 3) (ret 4))))

raises_outside : runs raises 0 ≡ record { output = []; end = uncaught 9; turns = [] }
raises_outside = refl

raises_under : runs (under raises) 0 ≡ printed (66 ∷ [])
raises_under = refl

-- what a handler raises goes past it
abbrev again : Exp
again = let_in 60 (handle raises 61 (let_in 62 (raise 61) (ret 62))) (ret 60)

again_outside : runs again 0 ≡ record { output = []; end = uncaught 9; turns = [] }
again_outside = refl

again_under : runs (under again) 0 ≡ printed (66 ∷ [])
again_under = refl

-- after what is handled the handler is left
left : runs (let_in 70 (handle (let_in 72 (make 0 []) (ret 72)) 71 (prints 1)) raises) 0 ≡ record { output = []; end = uncaught 9; turns = [] }
left = refl

-- function 1 prints A
abbrev calling : Exp → Program
calling e = record { tables = tables; funs = record { params = []; body = e } ∷ record { params = []; body = prints 0 } ∷ [] }

abbrev call_it : Exp
call_it = let_in 1 (call here (known 1) []) (let_in 2 (call there (known 1) []) (ret 2))

calls_cut : after.meaning (ssa (calling call_it)) 0 ≡ record { output = []; end = going; turns = [] }
calls_cut = refl

calls_once : after.meaning (ssa (calling call_it)) 1 ≡ record { output = 65 ∷ []; end = going; turns = here ∷ [] }
calls_once = refl

calls_twice : after.meaning (ssa (calling call_it)) 2 ≡ record { output = 65 ∷ 65 ∷ []; end = ended; turns = here ∷ there ∷ [] }
calls_twice = refl

calls_under : after.meaning (ssa (calling (under call_it))) 2 ≡ record { output = 65 ∷ 65 ∷ []; end = ended; turns = here ∷ there ∷ [] }
calls_under = refl

calls_in_a_handler : after.meaning (ssa (calling (let_in 80 (handle raises 81 call_it) (ret 80)))) 2 ≡ record { output = 65 ∷ 65 ∷ []; end = ended; turns = here ∷ there ∷ [] }
calls_in_a_handler = refl

calls_in_a_block : after.meaning (ssa (calling (let_in 80 (block call_it) (prints 1)))) 3 ≡ record { output = 65 ∷ 65 ∷ 66 ∷ []; end = ended; turns = here ∷ there ∷ [] }
calls_in_a_block = refl

-- equality at a type gives the tag of a truth value
abbrev equals : ℕ → Exp
equals n =
    let_in 1 (plain (constant (an_int (pos n))) []) (let_in 2 (plain (constant (an_int (pos 5))) []) (let_in 3 (plain (equal 0) (1 ∷ 2 ∷ []))
    (first (switch 3 (arm 0 (prints 1) (arm 1 (prints 0) no_arms))) (ret 3))))

-- type 0 is that of integers
abbrev comparing : Exp → Program
comparing e = record {
  tables = record { initial = tables.initial; strings = tables.strings; types = numbers ∷ []; sets = [] };
  funs = record { params = []; body = e } ∷ [];
}

equals_outside : after.meaning (ssa (comparing (equals 5))) 0 ≡ printed (65 ∷ [])
equals_outside = refl

equals_under : after.meaning (ssa (comparing (under (equals 6)))) 0 ≡ printed (66 ∷ [])
equals_under = refl

-- the name of an exception of the basis is one, wherever it is made
abbrev names : Exp
names = let_in 1 (plain (initial 2) []) (let_in 2 (plain (initial 2) []) (let_in 3 (make 0 []) (let_in 4 (plain pack (1 ∷ 3 ∷ [])) (branch is_of (4 ∷ 2 ∷ []) (prints 0) (prints 1)))))

names_outside : runs names 0 ≡ printed (65 ∷ [])
names_outside = refl

names_under : runs (under names) 0 ≡ printed (65 ∷ [])
names_under = refl

raises_of_the_basis : runs (let_in 1 (plain (initial 2) []) (let_in 2 (make 0 []) (let_in 3 (plain pack (1 ∷ 2 ∷ [])) (let_in 4 (raise 3) (ret 4))))) 0
    ≡ record { output = []; end = uncaught 42; turns = [] }
raises_of_the_basis = refl

-- what a packet carries, inside a handler and in what the handler goes on with
abbrev carries : Exp
carries =
    let_in 1 (plain (exception 9) []) (let_in 2 (plain (constant (a_text 0)) []) (let_in 3 (plain pack (1 ∷ 2 ∷ []))
    (let_in 4 (handle (let_in 5 (raise 3) (ret 5)) 6 (let_in 7 (plain argument (6 ∷ [])) (ret 7))) (let_in 8 (plain print (4 ∷ [])) (ret 8)))))

carries_outside : runs carries 0 ≡ printed (65 ∷ [])
carries_outside = refl

carries_under : runs (under carries) 0 ≡ printed (65 ∷ [])
carries_under = refl
