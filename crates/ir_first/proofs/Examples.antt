-- Small programs, by computation: in both meanings.
use Rattle.std.proofs.Common.{◌≡◌, ℕ, List, [], ◌∷◌, refl}
use Rattle.std.specs.Prelude.{pos}
use Rattle.mlc_runs.specs.Outcome.{Outcome, ended, wrong, going, uncaught}
use Rattle.mlc_base.specs.declared.place.Place.{Place}
use Rattle.mlc_prims.specs.declared.basis.BasisPrimitive.TheVariants.{Add, Less, Divide}
use Rattle.first_values.specs.Values.{one, run}
use Rattle.first_values.specs.Equality.{numbers, cells}
use Rattle.first_values.specs.Operations.{Tables, an_int, a_text, ints, constant, refer, content, assign, exception, initial, pack, argument, equal, print, is, is_of, holds, one_of}
use Rattle.ir_first.specs.Tree.{Exp, Program, ret, let_in, turn, switch, branch, first, miss, plain, make, attempt, call, block, handle, raise, no_arms, arm}
use Rattle.ir_first.specs.Meaning.{meaning}
use Rattle.ir_first.specs.Continued as continued
use Rattle.ir_first.specs.WellFormed.{IsWellFormed}

abbrev here : Place
here = record { file = 0; byte = 5 }

abbrev there : Place
there = record { file = 0; byte = 8 }

abbrev tables : Tables
tables = record {
  initial = 40 ∷ 41 ∷ 42 ∷ 43 ∷ 44 ∷ 45 ∷ 46 ∷ [];
  strings = (65 ∷ []) ∷ (66 ∷ []) ∷ [];
  types = numbers ∷ cells ([] ∷ (0 ∷ 1 ∷ []) ∷ []) ∷ [];
  sets = (record { tag = 7; function = 1 } ∷ []) ∷ [];
}

abbrev with_main : Exp → Program
with_main e = record { tables = tables; funs = record { params = []; body = e } ∷ [] }

abbrev out : List ℕ → List Place → Outcome
out bytes turns = record { output = bytes; end = ended; turns = turns }

-- prints string i, and gives x
abbrev prints : ℕ → Exp
prints i = let_in 30 (plain (constant (a_text i)) []) (let_in 31 (plain print (30 ∷ [])) (ret 31))

-- function 1 raises its second argument; it is called by a closure, under a handler, whose value is printed
abbrev raising : Program
raising = record {
  tables = tables;
  funs =
      record {
        params = [];
        body =
            let_in 2 (make 7 []) (let_in 3 (plain (exception 9) []) (let_in 4 (plain (constant (a_text 0)) []) (let_in 5 (plain pack (3 ∷ 4 ∷ []))
            (let_in 6 (handle (let_in 7 (call here (one_of 0 2) (5 ∷ [])) (ret 7)) 8 (let_in 9 (plain argument (8 ∷ [])) (ret 9)))
            (let_in 10 (plain print (6 ∷ [])) (ret 10))))));
      }
      ∷ record { params = 20 ∷ 21 ∷ []; body = let_in 22 (raise 21) (ret 22) }
      ∷ [];
}

handled : meaning raising 1 ≡ out (65 ∷ []) (here ∷ [])
handled = refl

handled_too : continued.meaning raising 1 ≡ out (65 ∷ []) (here ∷ [])
handled_too = refl

cut : meaning raising 0 ≡ record { output = []; end = going; turns = [] }
cut = refl

raising_is_well_formed : IsWellFormed raising
raising_is_well_formed = record {
  tables = record {
    initial = refl;
    strings = ((refl, tt), ((refl, tt), tt));
    types = (tt, ((tt, ((refl, (refl, tt)), tt)), tt));
    sets = (tt, tt);
  };
  main = refl;
  scoped = ((tt, ((refl, tt), (((refl, refl), tt), ((refl, (refl, (refl, tt))), (((((refl, ((record { tag = 7; function = 1 } ∷ []), refl, (refl, tt))), (refl, tt)), refl), ((refl, (refl, tt)), refl)), ((refl, (refl, tt)), refl)))))), ((refl, refl), tt));
  whole = ((refl, (tt, (tt, (tt, (tt, (((refl, (tt, tt)), (refl, (tt, tt))), (tt, tt))))))), ((refl, (tt, tt)), tt));
}

-- the second is tried where the first misses
abbrev tries : ℕ → Exp
tries tag = let_in 1 (make tag []) (let_in 2 (block (first (switch 1 (arm 0 (prints 0) no_arms)) (switch 1 (arm 1 (prints 1) no_arms)))) (ret 2))

second : meaning (with_main (tries 1)) 0 ≡ out (66 ∷ []) []
second = refl

neither : meaning (with_main (tries 2)) 0 ≡ record { output = []; end = wrong; turns = [] }
neither = refl

-- a block that misses: the one meaning has it missed as a whole, for the continued one it is wrong
abbrev missing : Program
missing = with_main (first (let_in 1 (block miss) (ret 1)) (prints 0))

whole_misses : meaning missing 0 ≡ out (65 ∷ []) []
whole_misses = refl

block_is_wrong : continued.meaning missing 0 ≡ record { output = []; end = wrong; turns = [] }
block_is_wrong = refl

-- a sum, and a sum that is too large; Overflow is the third of the initial exceptions
abbrev adds : Exp → Exp
adds e = let_in 1 (plain (constant (an_int (pos 2147483647))) []) (let_in 2 (plain (constant (an_int (pos 1))) []) e)

overflow : meaning (with_main (adds (let_in 3 (attempt ints Add (1 ∷ 2 ∷ [])) (ret 3)))) 0 ≡ record { output = []; end = uncaught 42; turns = [] }
overflow = refl

overflow_handled : continued.meaning (with_main (adds (let_in 3 (handle (let_in 4 (attempt ints Add (1 ∷ 2 ∷ [])) (ret 4)) 5
    (let_in 6 (plain (initial 2) []) (branch is_of (5 ∷ 6 ∷ []) (prints 0) (prints 1)))) (ret 3)))) 0 ≡ out (65 ∷ []) []
overflow_handled = refl

no_overflow : meaning (with_main (adds (let_in 3 (attempt ints Add (2 ∷ 2 ∷ [])) (branch (is (an_int (pos 2))) (3 ∷ []) (prints 0) (prints 1))))) 0 ≡ out (65 ∷ []) []
no_overflow = refl

-- Div is told from Overflow
no_divisor : meaning (with_main (adds (let_in 3 (plain (constant (an_int (pos 0))) []) (let_in 4 (attempt ints Divide (1 ∷ 3 ∷ [])) (ret 4))))) 0 ≡ record { output = []; end = uncaught 43; turns = [] }
no_divisor = refl

compared : meaning (with_main (adds (branch (holds ints Less) (2 ∷ 1 ∷ []) (prints 1) (prints 0)))) 0 ≡ out (66 ∷ []) []
compared = refl

-- a construction that is marked takes its turn
marked : meaning (with_main (turn there (let_in 1 (make 3 []) (ret 1)))) 1 ≡ out [] (there ∷ [])
marked = refl

-- a reference is written and read; two lists made of the parts of one another are equal
stored : meaning (with_main (adds (let_in 3 (make 0 []) (let_in 4 (make 1 (one 2 ∷ one 3 ∷ [])) (let_in 5 (plain refer (3 ∷ [])) (let_in 6 (plain assign (5 ∷ 4 ∷ [])) (let_in 7 (plain content (5 ∷ []))
    (let_in 8 (make 1 (run 7 0 2 ∷ [])) (let_in 9 (plain (equal 1) (8 ∷ 4 ∷ [])) (switch 9 (arm 1 (prints 1) no_arms))))))))))) 0 ≡ out (66 ∷ []) []
stored = refl
