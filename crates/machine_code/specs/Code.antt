-- The instructions of a program.
use Rattle.std.specs.Prelude.{ℕ, zero, suc, ◌+◌, ◌-◌, ◌*◌, max, List, [], ◌∷◌, ◌++◌, length, map, Option, Some, None, Bool, true, false, not, ◌&&◌, ◌||◌, nat_eq, nat_lt, nat_le, if◌then◌else◌, get_or}
use Rattle.ir_code.specs.declared.instr.Instr.{Instr}
use Rattle.ir_code.specs.declared.instr.Instr.TheVariants.{Li, Mov, Jmp, Brz, Call as CallRow, Ret, Acc, PushHandler, PopHandler, Raise as RaiseRow, Alloc, Ld, St, WAdd, Copy, Eq, SCmp, Print as PrintRow}
use Rattle.ir_code.specs.Words.{word_of, one_if}
use Rattle.mlc_prims.specs.declared.prim.PrimExn.{PrimExn}
use Rattle.ir_ssa.specs.of_first_values.Equality.{Shape, opaque}
use Rattle.ir_ssa.specs.of_first_values.Values.{Piece, one as a_value, run as a_run}
use Rattle.ir_ssa.specs.of_first_values.Operations.{Constant, an_int, a_word, a_char, a_text, a_truth, Plain, same, constant, field, refer, content, assign, exception, initial, pack, argument, compute, equal, print, Test, is, is_of, holds, Callee, known, one_of}
use Rattle.ir_ssa.specs.Tree.{Body, Bodies, plain, make, attempt, turn, call, label, again, guard, goto, jump, branch, switch, tail, ret, raise, last, arm}
use Rattle.machine_routines.specs.EqualCode.{is_word}
use Rattle.machine_routines.specs.FindCode.{Target, table_code, search_of, search_code}
use Rattle.machine_code.specs.Rows.{Rows, late_code, late_size, later}

-- the slot at this depth of a frame, after where to return to and whose frame
abbrev pub slot : ℕ → ℕ
slot d = suc (suc d)

-- the depth at which each variable is kept, the innermost first
abbrev pub Scope : Type 0
Scope = List (ℕ × ℕ)

abbrev pub depth_in : ℕ → Scope → ℕ
depth_in x [] = 0
depth_in x (b ∷ scope) = if nat_eq x b.0 then b.1 else depth_in x scope

abbrev pub depths_in : List ℕ → Scope → List ℕ
depths_in [] scope = []
depths_in (x ∷ xs) scope = depth_in x scope ∷ depths_in xs scope

-- parameters from a depth on
abbrev pub with_params : List ℕ → ℕ → Scope → Scope
with_params [] d scope = scope
with_params (x ∷ xs) d scope = with_params xs (suc d) ((x, d) ∷ scope)

-- a label: where its block stands, how deep its frame is there, and the handler's record that is left on the way
pub record Spot : Type 0 where
  pub place : ℕ
  pub depth : ℕ
  pub leaves : Option ℕ

abbrev pub no_spot : Spot
no_spot = record { place = 0; depth = 0; leaves = None }

abbrev pub or_this : Option ℕ → ℕ → Option ℕ
or_this None d = Some d
or_this (Some a) d = Some a

-- the only label under a handler whose record is at this depth
abbrev pub left_by : ℕ → Spot → Spot
left_by d s = record s { leaves = or_this s.leaves d }

-- a label, where its place is not yet known
pub record Exit : Type 0 where
  pub depth : ℕ
  pub leaves : Bool

abbrev pub no_exit : Exit
no_exit = record { depth = 0; leaves = false }

-- of a block at this depth, outside its handlers or inside
abbrev pub exit_at : ℕ → Exit
exit_at d = record { depth = d; leaves = false }

abbrev pub left : Exit → Exit
left e = record e { leaves = true }

abbrev pub is_some : Option ℕ → Bool
is_some None = false
is_some (Some a) = true

-- the spot of a block at this place and depth
abbrev pub block_at : ℕ → ℕ → Spot
block_at place d = record { place = place; depth = d; leaves = None }

abbrev pub exit_of : Spot → Exit
exit_of s = record { depth = s.depth; leaves = is_some s.leaves }

abbrev pub exits_of : List Spot → List Exit
exits_of [] = []
exits_of (s ∷ ls) = exit_of s ∷ exits_of ls

-- Sizes.

abbrev pub arg : ℕ → List ℕ → ℕ
arg i xs = get_or xs i 0

abbrev pub or_zero : Option ℕ → ℕ
or_zero None = 0
or_zero (Some x) = x

-- a test for a word
abbrev pub word_test_size : ℕ → ℕ
word_test_size zero = 2
word_test_size (suc n) = 3

abbrev pub is_size : Constant → ℕ
is_size (an_int z) = word_test_size (or_zero (word_of z))
is_size (a_word n) = word_test_size n
is_size (a_char n) = word_test_size n
is_size (a_text i) = 5
is_size (a_truth b) = word_test_size (one_if b)

abbrev pub callee_count : Callee → ℕ → ℕ
callee_count (known f) n = n
callee_count (one_of s x) n = suc n

-- the arguments of a call: that of one of a set begins with the closure
abbrev pub args_of : Callee → Scope → List ℕ → List ℕ
args_of (known f) scope xs = depths_in xs scope
args_of (one_of s x) scope xs = depth_in x scope ∷ depths_in xs scope

abbrev pub count : Bodies → ℕ
count (last b) = 0
count (arm i b bs) = suc (count bs)

-- all tags of arms are below this
abbrev pub arms_end : Bodies → ℕ
arms_end (last b) = 0
arms_end (arm i b bs) = max (suc i) (arms_end bs)

-- whether the tags of arms rise, from this one on
abbrev pub rise : ℕ → Bodies → Bool
rise t (last b) = true
rise t (arm i b bs) = nat_le t i && rise (suc i) bs

-- how a switch finds its arm
pub data Choice : Type 0 where
  by_table : Choice
  by_search : Choice
  by_tests : Choice

-- a jump table where the arms are at least half of the tags below the greatest; else a search, where they are many and rise; else each arm tests
abbrev pub choice_of : Bodies → Choice
choice_of bs = if nat_le (arms_end bs) (2 * count bs) then by_table else (if nat_lt 4 (count bs) && rise 0 bs then by_search else by_tests)

-- before the arms
abbrev pub choice_size : Choice → Bodies → ℕ
choice_size by_table bs = 3 + arms_end bs
choice_size by_search bs = 7 * count bs - 1
choice_size by_tests bs = 1

-- before an arm
abbrev pub test_arm_size : Choice → ℕ
test_arm_size by_table = 0
test_arm_size by_search = 0
test_arm_size by_tests = 3

abbrev pub one_if_true : Bool → ℕ
one_if_true false = 0
one_if_true true = 1

-- Words at these depths are to go to the slots from t on, all at once.

-- whether each word is still there when those before it have gone to their slots, of which the next is k
abbrev pub in_order : ℕ → ℕ → List ℕ → Bool
in_order t k [] = true
in_order t k (x ∷ xs) = (nat_lt x t || nat_le k x) && in_order t (suc k) xs

-- one after the other; a word that is in its slot stays there
abbrev pub straight_size : ℕ → List ℕ → ℕ
straight_size t [] = 0
straight_size t (x ∷ xs) = one_if_true (not (nat_eq x t)) + straight_size (suc t) xs

-- else first all behind the frame, and then down
abbrev pub move_size : ℕ → List ℕ → ℕ
move_size t xs = if in_order t t xs then straight_size t xs else length xs + length xs

abbrev pub goto_size : Exit → List ℕ → ℕ
goto_size e xs = one_if_true e.leaves + (move_size e.depth xs + 1)

-- of two values: one instruction where they are words, else a call of the routine
abbrev pub equal_size : Bool → ℕ
equal_size true = 1
equal_size false = 5

abbrev pub pieces_size : List Piece → ℕ
pieces_size [] = 0
pieces_size (a_value x ∷ ps) = 1 + pieces_size ps
pieces_size (a_run x from zero ∷ ps) = pieces_size ps
pieces_size (a_run x from (suc n) ∷ ps) = 6 + pieces_size ps

-- whether a cell is one of the first words of the memory, 0 and 1: those are cells of these tags with no parts
abbrev pub is_shared : ℕ → List Piece → Bool
is_shared t [] = nat_lt t 2
is_shared t (q ∷ qs) = false

abbrev pub make_size : ℕ → List Piece → ℕ
make_size t qs = if is_shared t qs then 1 else 3 + pieces_size qs

-- how many words they are
abbrev pub pieces_count : List Piece → ℕ
pieces_count [] = 0
pieces_count (a_value x ∷ ps) = 1 + pieces_count ps
pieces_count (a_run x from n ∷ ps) = n + pieces_count ps

module _ (rows : Rows) (types : List Shape) where
  abbrev pub plain_size : Plain → ℕ
  plain_size same = 1
  plain_size (constant c) = 1
  plain_size (field i) = 1
  plain_size refer = 2
  plain_size content = 1
  plain_size assign = 2
  plain_size (exception i) = 3
  plain_size (initial n) = 1
  plain_size pack = 3
  plain_size argument = 1
  plain_size (compute k p) = rows.size k p
  plain_size (equal t) = equal_size (is_word (get_or types t opaque))
  plain_size print = 2

  abbrev pub test_size : Test → ℕ
  test_size (is c) = is_size c
  test_size is_of = 3
  test_size (holds k p) = rows.test_size k p

  -- with d words of the frame in use
  abbrev mutual
    pub size : ℕ → Scope → List Exit → Body → ℕ
    size d scope es (make t qs x b) = make_size t qs + size (suc d) ((x, d) ∷ scope) es b
    size d scope es (plain p xs x b) = plain_size p + size (suc d) ((x, d) ∷ scope) es b
    size d scope es (attempt k p xs x a b) =
        rows.size k p + (size (suc d) ((x, d) ∷ scope) es a + (late_size (rows.late k p) + size (suc d) ((x, d) ∷ scope) es b))
    size d scope es (turn p b) = 1 + size d scope es b
    size d scope es (call p c xs x b) = callee_count c (length xs) + (2 + size (suc d) ((x, d) ∷ scope) es b)
    size d scope es (label params a b) = size d scope (exit_at d ∷ es) b + size (d + length params) (with_params params d scope) es a
    size d scope es (again params a b) =
        size d scope (exit_at d ∷ es) b + size (d + length params) (with_params params d scope) (exit_at d ∷ es) a
    size d scope es (guard l a y h) = 1 + (size (d + 3) scope (left (get_or es l no_exit) ∷ []) a + (1 + size (suc d) ((y, d) ∷ scope) es h))
    size d scope es (goto l xs) = goto_size (get_or es l no_exit) (depths_in xs scope)
    size d scope es (jump p l xs) = goto_size (get_or es l no_exit) (depths_in xs scope)
    size d scope es (branch q xs a b) = test_size q + (size d scope es a + size d scope es b)
    size d scope es (switch x bs) = choice_size (choice_of bs) bs + arms_size (choice_of bs) d scope es bs
    size d scope es (tail p c xs) = move_size 0 (args_of c scope xs) + 1
    size d scope es (ret x) = 1
    size d scope es (raise x) = 1

    pub arms_size : Choice → ℕ → Scope → List Exit → Bodies → ℕ
    arms_size how d scope es (last b) = size d scope es b
    arms_size how d scope es (arm i b bs) = test_arm_size how + size d scope es b + arms_size how d scope es bs

-- Code.

-- words at these depths to slots from d on
abbrev pub push_code : ℕ → List ℕ → List Instr
push_code d [] = []
push_code d (x ∷ xs) = Mov (slot d) (slot x) ∷ push_code (suc d) xs

-- n slots from d on to those from t on
abbrev pub down_code : ℕ → ℕ → ℕ → List Instr
down_code t d zero = []
down_code t d (suc n) = Mov (slot t) (slot d) ∷ down_code (suc t) (suc d) n

abbrev pub straight_code : ℕ → List ℕ → List Instr
straight_code t [] = []
straight_code t (x ∷ xs) = if nat_eq x t then straight_code (suc t) xs else Mov (slot t) (slot x) ∷ straight_code (suc t) xs

-- words at these depths to the slots from t on, with d words of the frame in use
abbrev pub move_code : ℕ → ℕ → List ℕ → List Instr
move_code d t xs = if in_order t t xs then straight_code t xs else push_code d xs ++ down_code t d (length xs)

-- words at these depths into the cell in slot d, from its word i on
abbrev pub fill_code : ℕ → ℕ → List ℕ → List Instr
fill_code d i [] = []
fill_code d i (x ∷ xs) = St (slot d) i (slot x) ∷ fill_code d (suc i) xs

-- pieces into the cell in slot d, from its word i on: a run is copied at once
abbrev pub pieces_code : ℕ → ℕ → Scope → List Piece → List Instr
pieces_code d i scope [] = []
pieces_code d i scope (a_value x ∷ ps) = St (slot d) i (slot (depth_in x scope)) ∷ pieces_code d (suc i) scope ps
pieces_code d i scope (a_run x from zero ∷ ps) = pieces_code d i scope ps
pieces_code d i scope (a_run x from (suc n) ∷ ps) =
    Li (slot (suc d)) i ∷ WAdd (slot (suc d)) (slot d) (slot (suc d))
    ∷ Li (slot (d + 2)) (suc from) ∷ WAdd (slot (d + 2)) (slot (depth_in x scope)) (slot (d + 2))
    ∷ Li (slot (d + 3)) (suc n) ∷ Copy (slot (suc d)) (slot (d + 2)) (slot (d + 3)) ∷ pieces_code d (i + suc n) scope ps

-- a cell in slot d
abbrev pub make_code : ℕ → ℕ → Scope → List Piece → List Instr
make_code d t scope qs =
    if is_shared t qs then Li (slot d) t ∷ []
    else (Alloc (slot d) (suc (pieces_count qs)) ∷ Li (slot (suc d)) t ∷ St (slot d) 0 (slot (suc d)) ∷ pieces_code d 1 scope qs)

abbrev pub leave_code : Option ℕ → List Instr
leave_code None = []
leave_code (Some a) = PopHandler (slot a) ∷ []

-- to a label, with these arguments
abbrev pub goto_code : ℕ → Spot → List ℕ → List Instr
goto_code d s xs = leave_code s.leaves ++ (move_code d s.depth xs ++ (Jmp s.place ∷ []))

-- on to the next arm unless the tag in slot d is this
abbrev pub test_arm_code : Choice → ℕ → ℕ → ℕ → List Instr
test_arm_code by_table d i q = []
test_arm_code by_search d i q = []
test_arm_code by_tests d i q = Li (slot (suc d)) i ∷ Eq (slot (suc d)) (slot d) (slot (suc d)) ∷ Brz (slot (suc d)) q ∷ []

-- to the arm of the tag of the cell at depth x, by the arms' places and that of the last
abbrev pub choice_code : ℕ → ℕ → ℕ → Choice → ℕ → List Target → ℕ → List Instr
choice_code pc d x by_table n set p = Ld (slot d) (slot x) 0 ∷ table_code set (slot d) p n
choice_code pc d x by_search n set p =
    Li (slot (suc d)) 0 ∷ Ld (slot d) (slot x) 0 ∷ search_code (pc + 2) (slot d) (slot (suc d)) p (search_of true p (length set) set)
choice_code pc d x by_tests n set p = Ld (slot d) (slot x) 0 ∷ []

-- the code of primitives, how types are compared, and where strings, names of identifiers, the first exceptions' names, packets, functions, calls of sets and
-- comparisons stand
pub record Places : Type 0 where
  pub rows : Rows
  pub types : List Shape
  pub text_at : ℕ → ℕ
  pub name_at : ℕ → ℕ
  pub initial_at : ℕ → ℕ
  pub packet_at : PrimExn → ℕ
  pub fun_at : ℕ → ℕ
  pub set_at : ℕ → ℕ
  pub type_at : ℕ → ℕ

module _ (at : Places) where
  abbrev pub callee_at : Callee → ℕ
  callee_at (known f) = at.fun_at f
  callee_at (one_of s x) = at.set_at s

  -- the word of a constant
  abbrev pub constant_word : Constant → ℕ
  constant_word (an_int z) = or_zero (word_of z)
  constant_word (a_word n) = n
  constant_word (a_char n) = n
  constant_word (a_text i) = at.text_at i
  constant_word (a_truth b) = one_if b

  -- whether the word at depth x is this; nothing is loaded for 0
  abbrev pub word_test_code : ℕ → ℕ → ℕ → ℕ → ℕ → List Instr
  word_test_code pc d zero x q = Brz (slot x) (pc + 2) ∷ Jmp q ∷ []
  word_test_code pc d (suc n) x q = Li (slot d) (suc n) ∷ Eq (slot d) (slot d) (slot x) ∷ Brz (slot d) q ∷ []

  abbrev pub is_code : ℕ → ℕ → Constant → ℕ → ℕ → List Instr
  is_code pc d (a_text i) x q =
      Li (slot d) (at.text_at i) ∷ SCmp (slot d) (slot d) (slot x) ∷ Li (slot (suc d)) 1 ∷ Eq (slot d) (slot d) (slot (suc d)) ∷ Brz (slot d) q ∷ []
  is_code pc d c x q = word_test_code pc d (constant_word c) x q

  -- a test of words at these depths, at the place pc; where it fails it goes on at q
  abbrev pub test_code : ℕ → ℕ → Test → List ℕ → ℕ → List Instr
  test_code pc d (is c) xs q = is_code pc d c (arg 0 xs) q
  test_code pc d is_of xs q = Ld (slot d) (slot (arg 0 xs)) 0 ∷ Eq (slot d) (slot d) (slot (arg 1 xs)) ∷ Brz (slot d) q ∷ []
  test_code pc d (holds k p) xs q = at.rows.test_code k p pc (slot d) q (map slot xs)

  -- whether two words at depths are the same, or by the routine whether two values of a type are
  abbrev pub equal_call : Bool → ℕ → ℕ → ℕ → ℕ → List Instr
  equal_call true d t x y = Eq (slot d) (slot x) (slot y) ∷ []
  equal_call false d t x y =
      Li (slot (d + 4)) 0 ∷ Mov (slot (d + 5)) (slot x) ∷ Mov (slot (d + 6)) (slot y) ∷ CallRow (at.type_at t) (slot d) ∷ Acc (slot d) ∷ []

  -- an operation on words at these depths, at the place pc; its result goes to slot d
  abbrev pub plain_code : ℕ → ℕ → Plain → List ℕ → List Instr
  plain_code pc d same xs = Mov (slot d) (slot (arg 0 xs)) ∷ []
  plain_code pc d (constant c) xs = Li (slot d) (constant_word c) ∷ []
  plain_code pc d (field i) xs = Ld (slot d) (slot (arg 0 xs)) (suc i) ∷ []
  plain_code pc d refer xs = Alloc (slot d) 1 ∷ St (slot d) 0 (slot (arg 0 xs)) ∷ []
  plain_code pc d content xs = Ld (slot d) (slot (arg 0 xs)) 0 ∷ []
  plain_code pc d assign xs = St (slot (arg 0 xs)) 0 (slot (arg 1 xs)) ∷ Li (slot d) 0 ∷ []
  plain_code pc d (exception i) xs = Alloc (slot d) 1 ∷ Li (slot (suc d)) (at.name_at i) ∷ St (slot d) 0 (slot (suc d)) ∷ []
  plain_code pc d (initial n) xs = Li (slot d) (at.initial_at n) ∷ []
  plain_code pc d pack xs = Alloc (slot d) 2 ∷ St (slot d) 0 (slot (arg 0 xs)) ∷ St (slot d) 1 (slot (arg 1 xs)) ∷ []
  plain_code pc d argument xs = Ld (slot d) (slot (arg 0 xs)) 1 ∷ []
  plain_code pc d (compute k p) xs = at.rows.code k p at.packet_at pc (slot d) (pc + at.rows.size k p) (map slot xs)
  plain_code pc d (equal t) xs = equal_call (is_word (get_or at.types t opaque)) d t (arg 0 xs) (arg 1 xs)
  plain_code pc d print xs = PrintRow (slot (arg 0 xs)) ∷ Li (slot d) 0 ∷ []

  abbrev pub body_size : ℕ → Scope → List Spot → Body → ℕ
  body_size d scope ls b = size at.rows at.types d scope (exits_of ls) b

  -- a block stands behind the body that goes to it
  abbrev pub block_place : ℕ → ℕ → Scope → List Spot → Body → ℕ
  block_place pc d scope ls b = pc + size at.rows at.types d scope (exit_at d ∷ exits_of ls) b

  -- the body under a handler
  abbrev pub guard_size : ℕ → Scope → List Spot → ℕ → Body → ℕ
  guard_size d scope ls l a = size at.rows at.types (d + 3) scope (left (get_or (exits_of ls) l no_exit) ∷ []) a

  -- the tags of arms and their places, of which the first is q; and the place of the last body
  abbrev pub targets : ℕ → ℕ → Scope → List Spot → Bodies → List Target
  targets q d scope ls (last b) = []
  targets q d scope ls (arm i b bs) = record { tag = i; place = q } ∷ targets (q + body_size d scope ls b) d scope ls bs

  abbrev pub last_at : ℕ → ℕ → Scope → List Spot → Bodies → ℕ
  last_at q d scope ls (last b) = q
  last_at q d scope ls (arm i b bs) = last_at (q + body_size d scope ls b) d scope ls bs

  -- at the place pc, with d words of the frame in use
  abbrev mutual
    pub code_at : ℕ → ℕ → Scope → List Spot → Body → List Instr
    code_at pc d scope ls (plain p xs x b) =
        plain_code pc d p (depths_in xs scope) ++ code_at (pc + plain_size at.rows at.types p) (suc d) ((x, d) ∷ scope) ls b
    code_at pc d scope ls (make t qs x b) = make_code d t scope qs ++ code_at (pc + make_size t qs) (suc d) ((x, d) ∷ scope) ls b
    code_at pc d scope ls (attempt k p xs x a b) =
        at.rows.code k p at.packet_at pc (slot d) (pc + at.rows.size k p + body_size (suc d) ((x, d) ∷ scope) ls a) (map slot (depths_in xs scope))
        ++ (code_at (pc + at.rows.size k p) (suc d) ((x, d) ∷ scope) ls a
        ++ (late_code (at.rows.late k p) at.packet_at (slot d)
        ++ code_at (later (at.rows.late k p) (pc + at.rows.size k p + body_size (suc d) ((x, d) ∷ scope) ls a)) (suc d) ((x, d) ∷ scope) ls b))
    code_at pc d scope ls (turn p b) = Jmp (pc + 1) ∷ code_at (pc + 1) d scope ls b
    code_at pc d scope ls (call p c xs x b) =
        push_code (suc (suc d)) (args_of c scope xs)
        ++ (CallRow (callee_at c) (slot d) ∷ Acc (slot d) ∷ code_at (pc + callee_count c (length xs) + 2) (suc d) ((x, d) ∷ scope) ls b)
    code_at pc d scope ls (label params a b) =
        code_at pc d scope (block_at (block_place pc d scope ls b) d ∷ ls) b
        ++ code_at (block_place pc d scope ls b) (d + length params) (with_params params d scope) ls a
    code_at pc d scope ls (again params a b) =
        code_at pc d scope (block_at (block_place pc d scope ls b) d ∷ ls) b
        ++ code_at (block_place pc d scope ls b) (d + length params) (with_params params d scope) (block_at (block_place pc d scope ls b) d ∷ ls) a
    code_at pc d scope ls (guard l a y h) =
        PushHandler (slot d) (pc + 1 + guard_size d scope ls l a)
        ∷ (code_at (pc + 1) (d + 3) scope (left_by d (get_or ls l no_spot) ∷ []) a
        ++ (Acc (slot d) ∷ code_at (pc + 2 + guard_size d scope ls l a) (suc d) ((y, d) ∷ scope) ls h))
    code_at pc d scope ls (goto l xs) = goto_code d (get_or ls l no_spot) (depths_in xs scope)
    code_at pc d scope ls (jump p l xs) = goto_code d (get_or ls l no_spot) (depths_in xs scope)
    code_at pc d scope ls (branch q xs a b) =
        test_code pc d q (depths_in xs scope) (pc + test_size at.rows at.types q + body_size d scope ls a)
        ++ (code_at (pc + test_size at.rows at.types q) d scope ls a ++ code_at (pc + test_size at.rows at.types q + body_size d scope ls a) d scope ls b)
    code_at pc d scope ls (switch x bs) =
        choice_code pc d (depth_in x scope) (choice_of bs) (arms_end bs) (targets (pc + choice_size (choice_of bs) bs) d scope ls bs)
        (last_at (pc + choice_size (choice_of bs) bs) d scope ls bs)
        ++ arms_at (pc + choice_size (choice_of bs) bs) d scope ls (choice_of bs) bs
    code_at pc d scope ls (tail p c xs) = move_code d 0 (args_of c scope xs) ++ (Jmp (callee_at c) ∷ [])
    code_at pc d scope ls (ret x) = Ret (slot (depth_in x scope)) ∷ []
    code_at pc d scope ls (raise x) = RaiseRow (slot (depth_in x scope)) ∷ []

    pub arms_at : ℕ → ℕ → Scope → List Spot → Choice → Bodies → List Instr
    arms_at pc d scope ls how (last b) = code_at pc d scope ls b
    arms_at pc d scope ls how (arm i b bs) =
        test_arm_code how d i (pc + test_arm_size how + body_size d scope ls b)
        ++ (code_at (pc + test_arm_size how) d scope ls b ++ arms_at (pc + test_arm_size how + body_size d scope ls b) d scope ls how bs)
