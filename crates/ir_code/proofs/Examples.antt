-- Worked examples of the machine, at its edges.
use Rattle.std.proofs.Common.{◌≡◌, ℕ, ◌-◌, ◌^◌, List, [], ◌∷◌, Some, None, codes, refl}
use Rattle.std.specs.Cmp.Lexicographic.{slice_cmp}
use Rattle.std.specs.Fmt.{digits}
use Rattle.std.specs.Ordering.{nat_cmp}
use Rattle.ir_code.specs.Machine.{State, Goes, Prints, Halts, no_handler, act, step}
use Rattle.ir_code.specs.Run.{end_of, uncaught, no_heap, no_stack, stuck, going}
use Rattle.ir_code.specs.Run as run
use Rattle.ir_code.specs.Words.{int_sum, int_difference, int_product, int_quotient, int_remainder, int_floor_quotient, int_floor_remainder, word_sum, word_difference, word_quotient, word_remainder, int_less, word_less, int_text, order_code}
use Rattle.ir_code.specs.declared.instr.Instr.TheVariants.{Li, Mov, Switch, Brz, Raise, End, Alloc, Ld, St, Copy, SCmp, IText, Print}
use Rattle.ir_code.specs.declared.halt.Halt.TheVariants.{Ended, Uncaught, NoHeap, NoStack, Stuck}

abbrev minus : ℕ → ℕ
minus n = 2 ^ 32 - n

-- Division: rounded down, by the divisor's sign, and towards zero.

floored : (int_floor_quotient 7 2 ≡ Some 3) × (int_floor_quotient (minus 7) 2 ≡ Some (minus 4)) × (int_floor_quotient 7 (minus 2) ≡ Some (minus 4)) × (int_floor_quotient (minus 7) (minus 2) ≡ Some 3)
floored = (refl, refl, refl, refl)

floored_rest : (int_floor_remainder 7 2 ≡ Some 1) × (int_floor_remainder (minus 7) 2 ≡ Some 1) × (int_floor_remainder 7 (minus 2) ≡ Some (minus 1)) × (int_floor_remainder (minus 7) (minus 2) ≡ Some (minus 1))
floored_rest = (refl, refl, refl, refl)

without_rest : (int_floor_quotient (minus 6) 3 ≡ Some (minus 2)) × (int_floor_remainder (minus 6) 3 ≡ Some 0) × (int_floor_quotient 6 (minus 3) ≡ Some (minus 2)) × (int_floor_remainder 6 (minus 3) ≡ Some 0)
without_rest = (refl, refl, refl, refl)

towards_zero : (int_quotient (minus 7) 2 ≡ Some (minus 3)) × (int_remainder (minus 7) 2 ≡ Some (minus 1)) × (int_quotient 7 (minus 2) ≡ Some (minus 3)) × (int_remainder 7 (minus 2) ≡ Some 1)
towards_zero = (refl, refl, refl, refl)

by_zero : (int_floor_quotient 7 0 ≡ None) × (int_floor_remainder 7 0 ≡ None) × (int_quotient 7 0 ≡ None) × (int_remainder 7 0 ≡ None) × (word_quotient 7 0 ≡ None) × (word_remainder 7 0 ≡ None)
by_zero = (refl, refl, refl, refl, refl, refl)

-- the least number by -1 has no quotient, and a remainder
least_by_minus_one : (int_floor_quotient (2 ^ 31) (minus 1) ≡ None) × (int_floor_remainder (2 ^ 31) (minus 1) ≡ Some 0) × (int_quotient (2 ^ 31) (minus 1) ≡ None) × (int_remainder (2 ^ 31) (minus 1) ≡ Some 0)
least_by_minus_one = (refl, refl, refl, refl)

-- Bounds of signed numbers and of words.

sums : (int_sum (2 ^ 31 - 1) 0 ≡ Some (2 ^ 31 - 1)) × (int_sum (2 ^ 31 - 1) 1 ≡ None) × (int_sum (2 ^ 31) (minus 1) ≡ None) × (int_sum (minus 1) 1 ≡ Some 0)
sums = (refl, refl, refl, refl)

differences : (int_difference 0 (2 ^ 31) ≡ None) × (int_difference (minus 1) (2 ^ 31) ≡ Some (2 ^ 31 - 1)) × (int_difference (2 ^ 31) 1 ≡ None)
differences = (refl, refl, refl)

products : (int_product (2 ^ 16) (2 ^ 15) ≡ None) × (int_product (2 ^ 16) (minus (2 ^ 15)) ≡ Some (2 ^ 31))
products = (refl, refl)

word_bounds : (word_sum (2 ^ 32 - 1) 1 ≡ 0) × (word_difference 0 1 ≡ 2 ^ 32 - 1) × (word_difference 5 5 ≡ 0)
word_bounds = (refl, refl, refl)

orders : (int_less (minus 1) 0 ≡ 1) × (int_less 0 0 ≡ 0) × (word_less (minus 1) 0 ≡ 0) × (word_less 0 (minus 1) ≡ 1)
orders = (refl, refl, refl, refl)

-- The text of a number.

texts : (int_text 0 ≡ codes "0") × (int_text (minus 1) ≡ codes "~1") × (int_text (2 ^ 31 - 1) ≡ codes "2147483647") × (int_text (2 ^ 31) ≡ codes "~2147483648")
unfolding digits
texts = (refl, refl, refl, refl)

-- The order of strings: by bytes, and a prefix is less.

abbrev order : List ℕ → List ℕ → ℕ
order a b = order_code (slice_cmp nat_cmp a b)

strings : (order [] [] ≡ 1) × (order [] (codes "a") ≡ 0) × (order (codes "ab") (codes "a") ≡ 2) × (order (codes "ab") (codes "b") ≡ 0) × (order (255 ∷ []) (codes "a") ≡ 2)
strings = (refl, refl, refl, refl, refl)

-- A machine. Constants: the string "E" at 0, the name at 2, a packet at 3; then two words of heap in use, and one that is free.

abbrev m : State
m = record { pc = 5; fp = 1; acc = 9; handler = no_handler; base = 5; limit = 7; stack = 0 ∷ 3 ∷ 5 ∷ 2 ∷ []; memory = 1 ∷ 69 ∷ 0 ∷ 2 ∷ 0 ∷ 40 ∷ 41 ∷ 42 ∷ [] }

abbrev holding : List ℕ → State
holding slots = record m { stack = 0 ∷ slots }

-- Stops: past the code, at the end, for want of stack and of heap.

past_the_code : step (End ∷ []) m ≡ Halts Stuck m
past_the_code = refl

at_end : act m End ≡ Halts Ended m
at_end = refl

last_slot : act m (Li 2 8) ≡ Goes (record m { pc = 6; stack = 0 ∷ 3 ∷ 5 ∷ 8 ∷ [] })
last_slot = refl

no_slot : (act m (Li 3 8) ≡ Halts NoStack m) × (act m (Mov 0 3) ≡ Halts NoStack m) × (act m (Raise 3) ≡ Halts NoStack m) × (act m (Copy 0 1 3) ≡ Halts NoStack m)
no_slot = (refl, refl, refl, refl)

last_heap_word : act m (Alloc 0 1) ≡ Goes (record m { pc = 6; limit = 8; stack = 0 ∷ 7 ∷ 5 ∷ 2 ∷ [] })
last_heap_word = refl

no_heap_word : act m (Alloc 0 2) ≡ Halts NoHeap m
no_heap_word = refl

-- the text of a number takes its length and its bytes
texts_in_heap : (act m (IText 0 1) ≡ Halts NoHeap m) × (act (record m { limit = 6 }) (IText 0 1) ≡ Goes (record m { pc = 6; limit = 8; stack = 0 ∷ 6 ∷ 5 ∷ 2 ∷ []; memory = 1 ∷ 69 ∷ 0 ∷ 2 ∷ 0 ∷ 40 ∷ 1 ∷ 53 ∷ [] }))
unfolding digits
texts_in_heap = (refl, refl)

-- the slot is asked for before the heap
slot_before_heap : act m (Alloc 3 2) ≡ Halts NoStack m
slot_before_heap = refl

-- Jumps: a test of 0, and the lesser of a word and the last place.

branches : (act (holding (0 ∷ [])) (Brz 0 2) ≡ Goes (record (holding (0 ∷ [])) { pc = 2 })) × (act m (Brz 0 2) ≡ Goes (record m { pc = 6 }))
branches = (refl, refl)

places : (act m (Switch 0 2) ≡ Goes (record m { pc = 8 })) × (act m (Switch 0 3) ≡ Goes (record m { pc = 9 })) × (act m (Switch 0 4) ≡ Goes (record m { pc = 9 }))
places = (refl, refl, refl)

-- RAISE without a handler: the packet, its name and its string lie in the words in use, and the string has bytes.

uncaught_packet : act m (Raise 0) ≡ Halts Uncaught (record m { acc = 3 })
uncaught_packet = refl

uncaught_is_named : end_of (Some Uncaught) (record m { acc = 3 }) ≡ uncaught (codes "E")
uncaught_is_named = refl

no_packet : act (holding (7 ∷ [])) (Raise 0) ≡ Halts Stuck (holding (7 ∷ []))
no_packet = refl

no_name : act (holding (1 ∷ [])) (Raise 0) ≡ Halts Stuck (holding (1 ∷ []))
no_name = refl

-- the packet at 6 has its name at 5, whose string would be at 6, of 5 words
no_string : let s = record (holding (6 ∷ [])) { memory = 1 ∷ 69 ∷ 0 ∷ 2 ∷ 0 ∷ 6 ∷ 5 ∷ 42 ∷ [] } in act s (Raise 0) ≡ Halts Stuck s
no_string = refl

no_byte : let s = record m { memory = 1 ∷ 256 ∷ 0 ∷ 2 ∷ 0 ∷ 40 ∷ 41 ∷ 42 ∷ [] } in act s (Raise 0) ≡ Halts Stuck s
no_byte = refl

-- RAISE with a handler: its record is three stack words, whatever the packet is.

handled : let s = record m { handler = 1; stack = 0 ∷ 77 ∷ 5 ∷ 2 ∷ [] } in act s (Raise 0) ≡ Goes (record s { acc = 77; handler = 77; pc = 5; fp = 2 })
handled = refl

no_record : let s = record m { handler = 2 } in act s (Raise 0) ≡ Halts Stuck s
no_record = refl

-- COPY: of no words wherever they are; to the end of the words in use; from constants but not to them; all read before any is written.

copies_nothing : let s = holding (minus 1 ∷ minus 1 ∷ 0 ∷ []) in act s (Copy 0 1 2) ≡ Goes (record s { pc = 6 })
copies_nothing = refl

copies_to_the_end : let s = holding (5 ∷ 0 ∷ 2 ∷ []) in act s (Copy 0 1 2) ≡ Goes (record s { pc = 6; memory = 1 ∷ 69 ∷ 0 ∷ 2 ∷ 0 ∷ 1 ∷ 69 ∷ 42 ∷ [] })
copies_to_the_end = refl

copies_past_the_end : let s = holding (6 ∷ 0 ∷ 2 ∷ []) in act s (Copy 0 1 2) ≡ Halts Stuck s
copies_past_the_end = refl

copies_from_past_the_end : let s = holding (5 ∷ 6 ∷ 2 ∷ []) in act s (Copy 0 1 2) ≡ Halts Stuck s
copies_from_past_the_end = refl

copies_to_constants : let s = holding (4 ∷ 0 ∷ 1 ∷ []) in act s (Copy 0 1 2) ≡ Halts Stuck s
copies_to_constants = refl

copies_onto_itself : let s = holding (5 ∷ 4 ∷ 2 ∷ []) in act s (Copy 0 1 2) ≡ Goes (record s { pc = 6; memory = 1 ∷ 69 ∷ 0 ∷ 2 ∷ 0 ∷ 0 ∷ 40 ∷ 42 ∷ [] })
copies_onto_itself = refl

-- Words of memory: the last in use, and the first that is not; constants are read and not written.

loads : (act (holding (5 ∷ [])) (Ld 0 0 1) ≡ Goes (record (holding (41 ∷ [])) { pc = 6 })) × (act (holding (5 ∷ [])) (Ld 0 0 2) ≡ Halts Stuck (holding (5 ∷ [])))
loads = (refl, refl)

stores : let s = holding (5 ∷ []) in (act s (St 0 0 0) ≡ Goes (record s { pc = 6; memory = 1 ∷ 69 ∷ 0 ∷ 2 ∷ 0 ∷ 5 ∷ 41 ∷ 42 ∷ [] })) × (act s (St 0 2 0) ≡ Halts Stuck s) × (act (holding (4 ∷ [])) (St 0 0 0) ≡ Halts Stuck (holding (4 ∷ [])))
stores = (refl, refl, refl)

-- Strings in memory.

prints : act (holding (0 ∷ [])) (Print 0) ≡ Prints (codes "E") (record (holding (0 ∷ [])) { pc = 6 })
prints = refl

prints_no_byte : let s = record (holding (0 ∷ [])) { memory = 1 ∷ 256 ∷ 0 ∷ 2 ∷ 0 ∷ 40 ∷ 41 ∷ 42 ∷ [] } in act s (Print 0) ≡ Halts Stuck s
prints_no_byte = refl

compares : act (holding (0 ∷ 2 ∷ [])) (SCmp 0 0 1) ≡ Goes (record (holding (2 ∷ 2 ∷ [])) { pc = 6 })
compares = refl

compares_nothing : act (holding (0 ∷ 7 ∷ [])) (SCmp 0 0 1) ≡ Halts Stuck (holding (0 ∷ 7 ∷ []))
compares_nothing = refl

-- Ends.

ends : (end_of None m ≡ going) × (end_of (Some Ended) m ≡ run.ended) × (end_of (Some NoHeap) m ≡ no_heap) × (end_of (Some NoStack) m ≡ no_stack) × (end_of (Some Stuck) m ≡ stuck)
ends = (refl, refl, refl, refl, refl)
