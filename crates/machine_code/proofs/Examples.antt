-- Small programs and their images, by computation, with the code of three primitives.
use Rattle.std.proofs.Common.{◌≡◌, ℕ, List, [], ◌∷◌, length, map, Some, get_or, refl}
use Rattle.std.specs.Prelude.{pos}
use Rattle.mlc_runs.specs.Outcome.{ended, uncaught}
use Rattle.mlc_base.specs.declared.place.Place.{Place}
use Rattle.ir_code.specs.declared.instr.Instr.{Instr}
use Rattle.ir_code.specs.declared.instr.Instr.TheVariants.{Li, Mov, Jmp, Brz, Alloc, St, Ret, Raise as RaiseRow, Add as AddRow, Sub as SubRow, ILt, Eq}
use Rattle.ir_code.specs.Machine.{run}
use Rattle.ir_code.specs.Run as machine
use Rattle.mlc_prims.specs.declared.prim.PrimExn.TheVariants.{Overflow}
use Rattle.mlc_prims.specs.declared.basis.BasisPrimitive.{BasisPrimitive}
use Rattle.mlc_prims.specs.declared.basis.BasisPrimitive.TheVariants.{Add, Subtract, Less}
use Rattle.ir_ssa.specs.of_first_values.Values.{one as a_value, run as a_run}
use Rattle.ir_ssa.specs.of_first_values.Equality.{Shape, numbers, texts, cells}
use Rattle.ir_ssa.specs.of_first_values.Operations.{Member, Operands, an_int, a_text, ints, constant, field, exception, initial, pack, argument, equal, print, is, is_of, holds, known, one_of}
use Rattle.ir_ssa.specs.Tree.{Body, Bodies, Fun, Program, plain, make, attempt, turn, call, label, again, guard, goto, jump, branch, switch, tail, ret, raise, last, arm}
use Rattle.ir_ssa.specs.Meaning.{meaning}
use Rattle.machine_code.specs.Rows.{Rows, Packets}
use Rattle.machine_code.specs.Code.{by_table, by_search, by_tests, choice_of, move_code, Places, plain_code, code_at}
use Rattle.machine_code.specs.Image.{text_words, text_place, places_of, code_of, constants_of, image_of}

-- sums and differences of integers, and the order of two
abbrev row : Operands → BasisPrimitive → Packets → (pc d other : ℕ) → List ℕ → List Instr
row k Subtract packets pc d other xs = SubRow d (get_or xs 0 0) (get_or xs 1 0) ∷ Jmp other ∷ []
row k p packets pc d other xs = AddRow d (get_or xs 0 0) (get_or xs 1 0) ∷ Jmp other ∷ []

abbrev three : Rows
three = record {
  size = λ k p. 2;
  code = row;
  late = λ k p. Some Overflow;
  test_size = λ k p. 2;
  test_code = λ k p pc d other xs. ILt d (get_or xs 0 0) (get_or xs 1 0) ∷ Brz d other ∷ [];
}

abbrev here : Place
here = record { file = 0; byte = 5 }

-- the identifiers 0 to 6 are those of the initial basis
abbrev written : List (List ℕ)
written = (77 ∷ []) ∷ (66 ∷ []) ∷ (79 ∷ []) ∷ (68 ∷ []) ∷ (83 ∷ []) ∷ (90 ∷ []) ∷ (67 ∷ []) ∷ (88 ∷ 89 ∷ []) ∷ []

abbrev program : List Shape → List (List Member) → List Fun → Program
program types sets funs = record {
  tables = record { initial = 0 ∷ 1 ∷ 2 ∷ 3 ∷ 4 ∷ 5 ∷ 6 ∷ []; strings = (65 ∷ []) ∷ (66 ∷ 67 ∷ []) ∷ []; types = types; sets = sets };
  funs = funs;
}

abbrev main : Body → Fun
main b = record { params = []; body = b }

abbrev runs : Program → ℕ → ℕ → ℕ → machine.RunResult
runs p heap stack n = machine.run_of (image_of three written p) heap stack n

-- the lists [n, text A] and [m, text A], compared: A is printed where they are equal, else BC
abbrev compared : ℕ → Program
compared m =
    program (numbers ∷ texts ∷ cells ([] ∷ (1 ∷ 2 ∷ []) ∷ []) ∷ cells ((0 ∷ 2 ∷ []) ∷ []) ∷ []) []
    (main (plain (constant (an_int (pos 7))) [] 1 (plain (constant (an_int (pos m))) [] 2 (plain (constant (a_text 0)) [] 3 (make 0 [] 4
    (make 1 (a_value 3 ∷ a_value 4 ∷ []) 5 (make 1 (a_value 3 ∷ a_value 5 ∷ []) 6
    (make 0 (a_value 1 ∷ a_value 6 ∷ []) 7 (make 0 (a_value 2 ∷ a_value 6 ∷ []) 8 (plain (equal 3) (7 ∷ 8 ∷ []) 9
    (label (10 ∷ []) (plain print (10 ∷ []) 11 (ret 11))
    (switch 9 (arm 1 (goto 0 (3 ∷ [])) (last (plain (constant (a_text 1)) [] 12 (goto 0 (12 ∷ [])))))))))))))))) ∷ [])

equal_means : meaning (compared 7) 0 ≡ record { output = 65 ∷ []; end = ended; turns = [] }
equal_means = refl

equal_runs : runs (compared 7) 100 60 200 ≡ record { output = 65 ∷ []; end = machine.ended }
unfolding run
equal_runs = refl

other_runs : runs (compared 8) 100 60 200 ≡ record { output = 66 ∷ 67 ∷ []; end = machine.ended }
unfolding run
other_runs = refl

-- function 1 raises its second argument; it is called by a closure, under a handler, which tells the exception and prints its argument
abbrev raising : Program
raising =
    program [] ((record { tag = 2; function = 1 } ∷ record { tag = 7; function = 1 } ∷ []) ∷ [])
    (main (label (6 ∷ []) (plain print (6 ∷ []) 10 (ret 10))
    (make 7 [] 2 (plain (exception 7) [] 3 (plain (constant (a_text 0)) [] 4 (plain pack (3 ∷ 4 ∷ []) 5
    (guard 0 (turn here (call here (one_of 0 2) (5 ∷ []) 7 (goto 0 (7 ∷ [])))) 8
    (branch is_of (8 ∷ 3 ∷ []) (plain argument (8 ∷ []) 9 (goto 0 (9 ∷ []))) (raise 8))))))))
    ∷ record { params = 20 ∷ 21 ∷ []; body = raise 21 } ∷ [])

raising_means : meaning raising 2 ≡ record { output = 65 ∷ []; end = ended; turns = here ∷ here ∷ [] }
raising_means = refl

raising_runs : runs raising 100 60 100 ≡ record { output = 65 ∷ []; end = machine.ended }
unfolding run
raising_runs = refl

-- no handler takes the exception of the identifier 7
abbrev lost : Program
lost = program [] [] (main (plain (exception 7) [] 3 (plain (constant (a_text 0)) [] 4 (plain pack (3 ∷ 4 ∷ []) 5 (raise 5)))) ∷ [])

lost_means : meaning lost 0 ≡ record { output = []; end = uncaught 7; turns = [] }
lost_means = refl

lost_runs : runs lost 100 60 100 ≡ record { output = []; end = machine.uncaught (88 ∷ 89 ∷ []) }
unfolding run
lost_runs = refl

-- a loop that adds up to an overflow, which is the third exception of the initial basis
abbrev counting : Program
counting =
    program [] []
    (main (plain (constant (an_int (pos 1073741824))) [] 1
    (again (2 ∷ [])
    (attempt ints Add (2 ∷ 1 ∷ []) 3 (jump here 0 (3 ∷ []))
    (plain (initial 2) [] 4 (branch is_of (3 ∷ 4 ∷ []) (plain (constant (a_text 1)) [] 5 (plain print (5 ∷ []) 6 (ret 6))) (raise 3))))
    (plain (constant (an_int (pos 0))) [] 7 (jump here 0 (7 ∷ []))))) ∷ [])

counting_means : meaning counting 2 ≡ record { output = 66 ∷ 67 ∷ []; end = ended; turns = here ∷ here ∷ [] }
counting_means = refl

counting_runs : runs counting 0 8 60 ≡ record { output = 66 ∷ 67 ∷ []; end = machine.ended }
unfolding run
counting_runs = refl

-- with a word of the stack less there is none for what the last operation gives
cut_runs : runs counting 0 7 60 ≡ record { output = 66 ∷ 67 ∷ []; end = machine.no_stack }
unfolding run
cut_runs = refl

-- a cell of a value and runs of another cell's parts, then which of two integers is less
abbrev pieces : ℕ → Program
pieces n =
    program [] []
    (main (label (20 ∷ []) (plain print (20 ∷ []) 21 (ret 21))
    (plain (constant (a_text 0)) [] 1 (plain (constant (a_text 1)) [] 2 (plain (constant (an_int (pos n))) [] 3 (make 0 (a_value 1 ∷ a_value 2 ∷ a_value 3 ∷ []) 4
    (make 5 (a_value 3 ∷ a_run 4 1 2 ∷ a_value 1 ∷ a_run 4 0 0 ∷ []) 6 (plain (field 1) (6 ∷ []) 7 (plain (field 2) (6 ∷ []) 8 (plain (field 3) (6 ∷ []) 9
    (plain (constant (an_int (pos 5))) [] 10
    (branch (holds ints Less) (8 ∷ 10 ∷ []) (branch (is (an_int (pos 3))) (8 ∷ []) (raise 8) (goto 0 (7 ∷ []))) (goto 0 (9 ∷ []))))))))))))) ∷ [])

pieces_mean : meaning (pieces 4) 0 ≡ record { output = 66 ∷ 67 ∷ []; end = ended; turns = [] }
pieces_mean = refl

pieces_run : runs (pieces 4) 9 60 100 ≡ record { output = 66 ∷ 67 ∷ []; end = machine.ended }
unfolding run
pieces_run = refl

not_less : runs (pieces 5) 9 60 100 ≡ record { output = 65 ∷ []; end = machine.ended }
unfolding run
not_less = refl

-- the cells have four words and five
no_room : runs (pieces 5) 8 60 100 ≡ record { output = []; end = machine.no_heap }
unfolding run
no_room = refl

-- a swap in a tail call: f (n, a, b) is f (n - 1, b, a), and prints a text at the end
abbrev swapping : ℕ → Program
swapping n =
    program [] []
    (main (plain (constant (an_int (pos n))) [] 1 (plain (constant (a_text 0)) [] 2 (plain (constant (a_text 1)) [] 3 (tail here (known 1) (1 ∷ 2 ∷ 3 ∷ [])))))
    ∷ record {
      params = 1 ∷ 2 ∷ 3 ∷ [];
      body =
          branch (is (an_int (pos 0))) (1 ∷ []) (plain print (2 ∷ []) 4 (ret 4))
          (plain (constant (an_int (pos 1))) [] 5 (attempt ints Subtract (1 ∷ 5 ∷ []) 6 (tail here (known 1) (6 ∷ 3 ∷ 2 ∷ [])) (raise 6)));
    } ∷ [])

swapped_once : runs (swapping 1) 0 10 60 ≡ record { output = 66 ∷ 67 ∷ []; end = machine.ended }
unfolding run
swapped_once = refl

swapped_twice : runs (swapping 2) 0 10 60 ≡ record { output = 65 ∷ []; end = machine.ended }
unfolding run
swapped_twice = refl

-- how many instructions, and constants
swapping_size : length (code_of three written (swapping 2)) ≡ 31
swapping_size = refl

swapping_constants : length (constants_of three written (swapping 2)) ≡ 45
swapping_constants = refl

-- go (n, a) is go (n - 1, a + n) up to 0: the code of a turn, eight instructions
abbrev summing : Body
summing =
    branch (is (an_int (pos 0))) (1 ∷ []) (ret 2)
    (plain (constant (an_int (pos 1))) [] 3 (attempt ints Subtract (1 ∷ 3 ∷ []) 4 (attempt ints Add (2 ∷ 1 ∷ []) 5 (tail here (known 1) (4 ∷ 5 ∷ [])) (raise 5)) (raise 4)))

abbrev places : Places
places = places_of three written (program [] [] [])

turn_of_sums : code_at places 100 2 ((2, 1) ∷ (1, 0) ∷ []) [] summing
    ≡ Brz 2 102 ∷ Jmp 103 ∷ Ret 3 ∷ Li 4 1
    ∷ SubRow 5 2 4 ∷ Jmp 113 ∷ AddRow 6 3 2 ∷ Jmp 111
    ∷ Mov 2 5 ∷ Mov 3 6 ∷ Jmp (places.fun_at 1)
    ∷ Li 6 (places.packet_at Overflow) ∷ RaiseRow 6 ∷ Li 5 (places.packet_at Overflow) ∷ RaiseRow 5 ∷ []
turn_of_sums = refl

-- a swap goes behind the frame and down; a word that is at its place stays
swap_moves : move_code 2 0 (1 ∷ 0 ∷ []) ≡ Mov 4 3 ∷ Mov 5 2 ∷ Mov 2 4 ∷ Mov 3 5 ∷ []
swap_moves = refl

straight_moves : move_code 4 0 (3 ∷ 1 ∷ 0 ∷ []) ≡ Mov 6 5 ∷ Mov 7 3 ∷ Mov 8 2 ∷ Mov 2 6 ∷ Mov 3 7 ∷ Mov 4 8 ∷ []
straight_moves = refl

kept_moves : move_code 4 0 (0 ∷ 3 ∷ 2 ∷ []) ≡ Mov 3 5 ∷ []
kept_moves = refl

-- what a switch over the cell with the tag t prints
abbrev choosing : Bodies → ℕ → Program
choosing bs t = program [] [] (main (make t [] 1 (label (20 ∷ []) (plain print (20 ∷ []) 21 (ret 21)) (switch 1 bs))) ∷ [])

abbrev prints : ℕ → Body
prints i = plain (constant (a_text i)) [] 2 (goto 0 (2 ∷ []))

abbrev twice : Body
twice = plain (constant (a_text 0)) [] 2 (plain print (2 ∷ []) 3 (goto 0 (2 ∷ [])))

abbrev choices : Bodies → List ℕ → List (List ℕ)
choices bs ts = map (λ t. (runs (choosing bs t) 1 9 60).output) ts

-- in any order, with a tag that no arm has
abbrev filled : Bodies
filled = arm 2 (prints 0) (arm 0 (prints 1) (last twice))

filled_chosen : choice_of filled ≡ by_table
filled_chosen = refl

filled_runs : choices filled (0 ∷ 1 ∷ 2 ∷ 3 ∷ []) ≡ (66 ∷ 67 ∷ []) ∷ (65 ∷ 65 ∷ []) ∷ (65 ∷ []) ∷ (65 ∷ 65 ∷ []) ∷ []
unfolding run
filled_runs = refl

abbrev sparse : Bodies
sparse = arm 3 (prints 0) (arm 10 (prints 1) (arm 20 (prints 0) (arm 30 (prints 1) (arm 40 (prints 0) (last twice)))))

sparse_chosen : choice_of sparse ≡ by_search
sparse_chosen = refl

sparse_runs : choices sparse (0 ∷ 3 ∷ 10 ∷ 15 ∷ 20 ∷ 30 ∷ 40 ∷ 41 ∷ [])
    ≡ (65 ∷ 65 ∷ []) ∷ (65 ∷ []) ∷ (66 ∷ 67 ∷ []) ∷ (65 ∷ 65 ∷ []) ∷ (65 ∷ []) ∷ (66 ∷ 67 ∷ []) ∷ (65 ∷ []) ∷ (65 ∷ 65 ∷ []) ∷ []
unfolding run
sparse_runs = refl

abbrev few : Bodies
few = arm 9 (prints 0) (arm 4 (prints 1) (last twice))

few_chosen : choice_of few ≡ by_tests
few_chosen = refl

few_runs : choices few (4 ∷ 9 ∷ 0 ∷ []) ≡ (66 ∷ 67 ∷ []) ∷ (65 ∷ []) ∷ (65 ∷ 65 ∷ []) ∷ []
unfolding run
few_runs = refl

-- integers are compared by one instruction
words_compared : plain_code (places_of three written (program (numbers ∷ []) [] [])) 100 5 (equal 0) (1 ∷ 3 ∷ []) ≡ Eq 7 3 5 ∷ []
words_compared = refl

-- a cell that the constants have, and one that they haven't
shared_cell : code_at places 100 2 [] [] (make 1 [] 5 (ret 5)) ≡ Li 4 1 ∷ Ret 4 ∷ []
shared_cell = refl

new_cell : code_at places 100 2 [] [] (make 2 [] 5 (ret 5)) ≡ Alloc 4 1 ∷ Li 5 2 ∷ St 4 0 5 ∷ Ret 4 ∷ []
new_cell = refl

-- an empty text takes no word
empty_texts : text_words ((65 ∷ []) ∷ [] ∷ (66 ∷ 67 ∷ []) ∷ []) ≡ 1 ∷ 65 ∷ 2 ∷ 66 ∷ 67 ∷ []
empty_texts = refl

empty_places : map (text_place 2 ((65 ∷ []) ∷ [] ∷ (66 ∷ 67 ∷ []) ∷ [])) (0 ∷ 1 ∷ 2 ∷ 3 ∷ []) ≡ 2 ∷ 0 ∷ 4 ∷ 0 ∷ []
empty_places = refl
