-- Two lists of integers and two pairs with texts, compared by the machine.
use Rattle.std.specs.Prelude.{◌≡◌, refl, ℕ, List, [], ◌∷◌, Some, true}
use Rattle.ir_code.specs.declared.instr.Instr.{Instr}
use Rattle.ir_code.specs.declared.halt.Halt.TheVariants.{NoHeap}
use Rattle.ir_code.specs.Machine.{State, run}
use Rattle.first_values.specs.Equality.{Shape, numbers, texts, cells}
use Rattle.machine_routines.specs.EqualCode.{offset_of, place, equal_code}
use Rattle.machine_routines.specs.EqualLaw.{words}
use Rattle.machine_routines.specs.FindCode.{Target, way_of, way_code}
use Rattle.machine_routines.specs.Runs.{Frame, inside}

-- integers, lists of them, texts, pairs of a text and a list
abbrev shapes : List Shape
shapes = numbers ∷ cells ([] ∷ (0 ∷ 1 ∷ []) ∷ []) ∷ texts ∷ cells ((2 ∷ 1 ∷ []) ∷ []) ∷ []

abbrev code : List Instr
code = equal_code shapes 0 1000

-- nil at 0; the lists [7] at 1, [8] at 4 and [7, 8] at 7; the text A at 10 and 12, B at 14; pairs of a text and a list at 16, 19 and 22
abbrev memory : List ℕ
memory =
    0 ∷ 1 ∷ 7 ∷ 0 ∷ 1 ∷ 8 ∷ 0 ∷ 1 ∷ 7 ∷ 4 ∷ 1 ∷ 65 ∷ 1 ∷ 65 ∷ 1 ∷ 66 ∷ 0 ∷ 10 ∷ 7 ∷ 0 ∷ 12 ∷ 7 ∷ 0 ∷ 14 ∷ 7 ∷ []

abbrev frame : Frame
frame = record { lower = []; handler = 0; acc = 5; base = 1 }

-- compares the values of this type at two addresses, with so many words free
abbrev compare : ℕ → ℕ → ℕ → List ℕ → State
compare t l r free = inside frame (place shapes 0 1000 (offset_of shapes t)) (words 900 0 [] 0 0 0 l r) memory free

-- after so many steps: where it is, and the answer
abbrev after : ℕ → State → ℕ × ℕ
after n s = let r = run code n s [] in (r.state.pc, r.state.acc)

same_list : after 100 (compare 1 7 7 []) ≡ (900, 1)
unfolding run
same_list = refl

another_element : after 100 (compare 1 1 4 []) ≡ (900, 0)
unfolding run
another_element = refl

shorter : after 100 (compare 1 1 7 []) ≡ (900, 0)
unfolding run
shorter = refl

-- texts by their bytes: the rest of the pair is pending, which takes four words
other_place : after 100 (compare 3 16 19 (0 ∷ 0 ∷ 0 ∷ 0 ∷ [])) ≡ (900, 1)
unfolding run
other_place = refl

other_text : after 100 (compare 3 16 22 (0 ∷ 0 ∷ 0 ∷ 0 ∷ [])) ≡ (900, 0)
unfolding run
other_text = refl

no_room : (run code 100 (compare 3 16 19 (0 ∷ 0 ∷ 0 ∷ [])) []).halt ≡ Some NoHeap
unfolding run
no_room = refl

-- the tags 3, 7 and 9 by a search that has tests, and 0 and 2 by a table, with the tag in slot 0
abbrev sparse : List Target
sparse = record { tag = 3; place = 903 } ∷ record { tag = 7; place = 907 } ∷ record { tag = 9; place = 909 } ∷ []

abbrev dense : List Target
dense = record { tag = 0; place = 900 } ∷ record { tag = 2; place = 902 } ∷ []

-- where it goes for a tag, or to 999
abbrev found : List Target → ℕ → ℕ → ℕ
found set n t = (run (way_code set 0 0 1 999 (way_of true 999 n set)) 40 (inside frame 0 (t ∷ 0 ∷ []) memory []) []).state.pc

searched : (found sparse 10 3 ∷ found sparse 10 7 ∷ found sparse 10 9 ∷ found sparse 10 8 ∷ []) ≡ 903 ∷ 907 ∷ 909 ∷ 999 ∷ []
unfolding run
searched = refl

tabled : (found dense 3 0 ∷ found dense 3 1 ∷ found dense 3 2 ∷ found dense 3 7 ∷ []) ≡ 900 ∷ 999 ∷ 902 ∷ 999 ∷ []
unfolding run
tabled = refl
