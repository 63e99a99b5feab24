-- Programs with primitives and their images, by computation; and one of which all holds that the law asks.
use Rattle.std.proofs.Common.{◌≡◌, ◌≢◌, ℕ, ◌+◌, ◌^◌, ◌<◌, List, [], ◌∷◌, refl, sym, ap, ◌∙◌, arith}
use Rattle.std.specs.Prelude.{pos, negsuc}
use Rattle.std.specs.Fmt.{digits}
use Rattle.mlc_runs.specs.Outcome.{ended, uncaught, wrong}
use Rattle.ir_code.specs.Machine.{run}
use Rattle.ir_code.specs.Run.{run_of}
use Rattle.ir_code.specs.Run as machine
use Rattle.mlc_prims.specs.declared.basis.BasisPrimitive.TheVariants.{Divide, Less, TextOf, CharAt, PartOf, Concat, StringOf}
use Rattle.first_values.specs.Operations.{an_int, a_text, ints, chars, texts, constant, compute, print, holds}
use Rattle.machine_primitives.specs.of_ir_ssa.Tree.{Body, Program, plain, attempt, branch, ret, raise}
use Rattle.machine_primitives.specs.of_ir_ssa.Meaning.{meaning}
use Rattle.machine_primitives.specs.of_ir_ssa.WellFormed.{IsWellFormed}
use Rattle.same_runs.specs.SameRuns.{SameRuns}
use Rattle.machine_primitives.specs.of_machine_code.Image.{text_of, image_of}
use Rattle.machine_primitives.specs.of_machine_code.Law.{IsFit}
use Rattle.machine_rows.specs.Table.{rows}
use Rattle.machine_rows.specs.Law.{ImagesAreRight}

-- the identifiers 0 to 6 are those of the initial basis
abbrev written : List (List ℕ)
written = (77 ∷ []) ∷ (66 ∷ []) ∷ (79 ∷ []) ∷ (68 ∷ []) ∷ (83 ∷ []) ∷ (90 ∷ []) ∷ (67 ∷ []) ∷ []

-- the strings are AB and BCD
abbrev program : Body → Program
program b = record {
  tables = record { initial = 0 ∷ 1 ∷ 2 ∷ 3 ∷ 4 ∷ 5 ∷ 6 ∷ []; strings = (65 ∷ 66 ∷ []) ∷ (66 ∷ 67 ∷ 68 ∷ []) ∷ []; types = []; sets = [] };
  funs = record { params = []; body = b } ∷ [];
}

abbrev runs : Program → ℕ → ℕ → ℕ → machine.RunResult
runs p heap stack n = machine.run_of (image_of rows written p) heap stack n

-- ~7 divided by n, printed
abbrev quotient : ℕ → Program
quotient n =
    program (plain (constant (an_int (negsuc 6))) [] 1 (plain (constant (an_int (pos n))) [] 2
    (attempt ints Divide (1 ∷ 2 ∷ []) 3 (plain (compute ints TextOf) (3 ∷ []) 4 (plain print (4 ∷ []) 5 (ret 5))) (raise 3))))

quotient_means : (m : ℕ) → meaning (quotient 2) m ≡ record { output = 126 ∷ 52 ∷ []; end = ended; turns = [] }
unfolding digits
quotient_means m = refl

quotient_runs : runs (quotient 2) 3 9 40 ≡ record { output = 126 ∷ 52 ∷ []; end = machine.ended }
unfolding run digits
quotient_runs = refl

-- the text has three words
quotient_cut : runs (quotient 2) 2 9 40 ≡ record { output = []; end = machine.no_heap }
unfolding run digits
quotient_cut = refl

by_zero_means : (m : ℕ) → meaning (quotient 0) m ≡ record { output = []; end = uncaught 3; turns = [] }
by_zero_means m = refl

by_zero_runs : runs (quotient 0) 3 9 40 ≡ record { output = []; end = machine.uncaught (68 ∷ []) }
unfolding run
by_zero_runs = refl

-- n bytes from i on of both strings as one, then which of them is less
abbrev parts : ℕ → ℕ → Program
parts i n =
    program (plain (constant (a_text 0)) [] 1 (plain (constant (a_text 1)) [] 2 (plain (constant (an_int (pos i))) [] 3 (plain (constant (an_int (pos n))) [] 4
    (attempt texts Concat (1 ∷ 2 ∷ []) 5
    (attempt texts PartOf (5 ∷ 3 ∷ 4 ∷ []) 6 (plain print (6 ∷ []) 7
    (branch (holds texts Less) (1 ∷ 2 ∷ []) (plain print (1 ∷ []) 8 (ret 8)) (plain print (2 ∷ []) 9 (ret 9)))) (raise 6)) (raise 5))))))

parts_mean : (m : ℕ) → meaning (parts 1 3) m ≡ record { output = 66 ∷ 66 ∷ 67 ∷ 65 ∷ 66 ∷ []; end = ended; turns = [] }
parts_mean m = refl

parts_run : runs (parts 1 3) 10 14 80 ≡ record { output = 66 ∷ 66 ∷ 67 ∷ 65 ∷ 66 ∷ []; end = machine.ended }
unfolding run
parts_run = refl

parts_outside : runs (parts 3 3) 10 14 80 ≡ record { output = []; end = machine.uncaught (83 ∷ []) }
unfolding run
parts_outside = refl

-- the byte at i of the first string, as a text
abbrev byte : ℕ → Program
byte i =
    program (plain (constant (a_text 0)) [] 1 (plain (constant (an_int (pos i))) [] 2
    (attempt texts CharAt (1 ∷ 2 ∷ []) 3 (plain (compute chars StringOf) (3 ∷ []) 4 (plain print (4 ∷ []) 5 (ret 5))) (raise 3))))

byte_runs : runs (byte 1) 2 10 40 ≡ record { output = 66 ∷ []; end = machine.ended }
unfolding run
byte_runs = refl

byte_outside : runs (byte 2) 2 10 40 ≡ record { output = []; end = machine.uncaught (83 ∷ []) }
unfolding run
byte_outside = refl

-- All that the law asks holds of the first of these.

well : IsWellFormed (quotient 2)
well = record {
  tables = record { initial = refl; strings = ((refl, (refl, tt)), ((refl, (refl, (refl, tt))), tt)); types = tt; sets = tt };
  main = refl;
  scoped = ((((tt, refl), tt), (((tt, refl), tt), ((refl, (refl, tt)), (((refl, (refl, tt)), ((refl, (refl, tt)), (refl, refl))), refl)))), tt);
}

fit : IsFit rows written (quotient 2)
fit = record { bytes = (refl, (refl, (refl, (refl, (refl, (refl, (refl, tt))))))); fits = omega arith }

never : (m : ℕ) → (meaning (quotient 2) m).end ≢ wrong
never m e = let f : ended ≡ wrong = ap (λ o. o.end) (sym (quotient_means m)) ∙ e in absurd (cc)

applies : ImagesAreRight → (heap stack : ℕ) → stack < 2 ^ 32 → 44 + heap < 2 ^ 31 → SameRuns (text_of written) (meaning (quotient 2)) (run_of (image_of rows written (quotient 2)) heap stack)
applies law heap stack few small = law written (quotient 2) well fit never heap stack few small
