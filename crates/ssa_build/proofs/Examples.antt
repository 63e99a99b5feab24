-- Small programs and their SSA forms, by computation.
use Rattle.std.proofs.Common.{◌≡◌, ℕ, [], ◌∷◌, refl}
use Rattle.std.specs.Prelude.{pos}
use Rattle.mlc_runs.specs.Outcome.{ended, wrong, going, uncaught}
use Rattle.mlc_base.specs.declared.place.Place.{Place}
use Rattle.mlc_prims.specs.declared.basis.BasisPrimitive.TheVariants.{Add, Subtract}
use Rattle.first_values.specs.Operations.{Tables, an_int, a_text, ints, constant, exception, initial, pack, argument, print, is, is_of, known, one_of}
use Rattle.ir_first.specs.Tree.{Exp, Program, ret, let_in, turn, switch, branch, first, plain, make, attempt, call, block, handle, raise, no_arms, arm}
use Rattle.ir_first.specs.Meaning.{meaning}
use Rattle.ir_ssa.specs.Tree as s
use Rattle.ir_ssa.specs.Meaning as after
use Rattle.ssa_build.specs.Build.{build, returns, ssa}

abbrev pub here : Place
here = record { file = 0; byte = 5 }

abbrev pub there : Place
there = record { file = 0; byte = 8 }

abbrev pub tables : Tables
tables = record {
  initial = 40 ∷ 41 ∷ 42 ∷ 43 ∷ 44 ∷ 45 ∷ 46 ∷ [];
  strings = (65 ∷ []) ∷ (66 ∷ []) ∷ [];
  types = [];
  sets = (record { tag = 7; function = 1 } ∷ []) ∷ [];
}

abbrev pub with_main : Exp → Program
with_main e = record { tables = tables; funs = record { params = []; body = e } ∷ [] }

-- prints string i
abbrev pub prints : ℕ → Exp
prints i = let_in 30 (plain (constant (a_text i)) []) (let_in 31 (plain print (30 ∷ [])) (ret 31))

-- function 1 raises its second argument; it is called by a closure, under a handler, whose value is printed
abbrev raising : Program
raising = record {
  tables = tables;
  funs =
      record {
        params = [];
        body =
            let_in 2 (make 7 []) (let_in 3 (plain (exception 9) []) (let_in 4 (plain (constant (a_text 0)) []) (let_in 5 (plain pack (3 ∷ 4 ∷ []))
            (let_in 6 (handle (let_in 7 (call here (one_of 0 2) (5 ∷ [])) (ret 7)) 8 (let_in 9 (plain argument (8 ∷ [])) (ret 9)))
            (let_in 10 (plain print (6 ∷ [])) (ret 10))))));
      }
      ∷ record { params = 20 ∷ 21 ∷ []; body = let_in 22 (raise 21) (ret 22) }
      ∷ [];
}

handled : after.meaning (ssa raising) 1 ≡ record { output = 65 ∷ []; end = ended; turns = here ∷ [] }
handled = refl

cut : after.meaning (ssa raising) 0 ≡ record { output = []; end = going; turns = [] }
cut = refl

-- a call in a handler's scope is no tail call, one in the handler is
scope : build returns 0 (let_in 1 (handle (let_in 2 (call here (known 0) []) (ret 2)) 3 (let_in 4 (call here (known 0) []) (ret 4))) (ret 1)) ≡
    s.label (1 ∷ []) (s.ret 1) (s.guard 0 (s.call here (known 0) [] 2 (s.goto 0 (2 ∷ []))) 3 (s.tail here (known 0) []))
scope = refl

-- a call whose value a block gives is a tail call; one before a join isn't
through_a_block : build returns 0 (let_in 1 (block (turn there (let_in 2 (call here (known 0) []) (ret 2)))) (ret 1)) ≡ s.turn there (s.tail here (known 0) [])
through_a_block = refl

before_a_join : build returns 0 (let_in 1 (block (let_in 2 (call here (known 0) []) (ret 2))) (let_in 3 (plain print (1 ∷ [])) (ret 3))) ≡
    s.label (1 ∷ []) (s.plain print (1 ∷ []) 3 (s.ret 3)) (s.call here (known 0) [] 2 (s.goto 0 (2 ∷ [])))
before_a_join = refl

-- the second is tried where the first misses; a miss of all is wrong
abbrev tries : ℕ → Exp
tries tag = let_in 1 (make tag []) (let_in 2 (block (first (switch 1 (arm 0 (prints 0) no_arms)) (switch 1 (arm 1 (prints 1) no_arms)))) (ret 2))

second : after.meaning (ssa (with_main (tries 1))) 0 ≡ record { output = 66 ∷ []; end = ended; turns = [] }
second = refl

neither : after.meaning (ssa (with_main (tries 2))) 0 ≡ record { output = []; end = wrong; turns = [] }
neither = refl

-- a sum that is too large, outside a handler and inside
abbrev overflows : Exp → Exp
overflows e = let_in 1 (plain (constant (an_int (pos 2147483647))) []) e

overflow : after.meaning (ssa (with_main (overflows (let_in 2 (attempt ints Add (1 ∷ 1 ∷ [])) (ret 2))))) 0 ≡ record { output = []; end = uncaught 42; turns = [] }
overflow = refl

overflow_handled : after.meaning (ssa (with_main (overflows (let_in 2 (handle (let_in 3 (attempt ints Add (1 ∷ 1 ∷ [])) (ret 3)) 4
    (let_in 5 (plain (initial 2) []) (branch is_of (4 ∷ 5 ∷ []) (prints 0) (prints 1)))) (ret 2))))) 0 ≡ record { output = 65 ∷ []; end = ended; turns = [] }
overflow_handled = refl

-- a loop of tail calls, down from n
abbrev pub looping : ℕ → Program
looping n = record {
  tables = tables;
  funs =
      record { params = []; body = let_in 1 (plain (constant (an_int (pos n))) []) (let_in 2 (call here (known 1) (1 ∷ [])) (ret 2)) }
      ∷ record {
        params = 3 ∷ [];
        body = branch (is (an_int (pos 0))) (3 ∷ []) (prints 1) (let_in 4 (plain (constant (an_int (pos 1))) []) (let_in 5 (attempt ints Subtract (3 ∷ 4 ∷ [])) (let_in 6 (call there (known 1) (5 ∷ [])) (ret 6))));
      }
      ∷ [];
}

loop : after.meaning (ssa (looping 3)) 4 ≡ record { output = 66 ∷ []; end = ended; turns = here ∷ there ∷ there ∷ there ∷ [] }
loop = refl

loop_cut : after.meaning (ssa (looping 3)) 3 ≡ record { output = []; end = going; turns = here ∷ there ∷ there ∷ [] }
loop_cut = refl
