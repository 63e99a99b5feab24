-- How long images are.
use Rattle.std.specs.Prelude.{◌≡◌, ℕ, ◌+◌, ◌*◌, ◌≤◌, List, [], ◌∷◌, length}
use Rattle.ir_ssa.specs.of_first_values.Operations.{Member, Plain, same, constant, field, refer, content, assign, exception, initial, pack, argument, compute, equal, print, Test, is, is_of, holds}
use Rattle.ir_ssa.specs.Tree.{Body, Bodies, Fun, Program, plain, make, attempt, turn, call, label, again, guard, goto, jump, branch, switch, tail, ret, raise, last, arm}
use Rattle.ir_ssa.specs.Size.{nodes_funs}
use Rattle.machine_routines.specs.Sizes.{shapes_nodes}
use Rattle.machine_code.specs.Rows.{Rows, AreRight}
use Rattle.machine_code.specs.Image.{constants_of, code_of}

-- the code of the primitives that a program performs
module _ (rows : Rows) where
  abbrev pub plain_rows : Plain → ℕ
  plain_rows same = 0
  plain_rows (constant c) = 0
  plain_rows (field i) = 0
  plain_rows refer = 0
  plain_rows content = 0
  plain_rows assign = 0
  plain_rows (exception i) = 0
  plain_rows (initial n) = 0
  plain_rows pack = 0
  plain_rows argument = 0
  plain_rows (compute k p) = rows.size k p
  plain_rows (equal t) = 0
  plain_rows print = 0

  abbrev pub test_rows : Test → ℕ
  test_rows (is c) = 0
  test_rows is_of = 0
  test_rows (holds k p) = rows.test_size k p

  abbrev mutual
    pub body_rows : Body → ℕ
    body_rows (plain p xs x b) = plain_rows p + body_rows b
    body_rows (make t ps x b) = body_rows b
    body_rows (attempt k p xs x a b) = rows.size k p + body_rows a + body_rows b
    body_rows (turn p b) = body_rows b
    body_rows (call p c xs x b) = body_rows b
    body_rows (label params a b) = body_rows a + body_rows b
    body_rows (again params a b) = body_rows a + body_rows b
    body_rows (guard l a y h) = body_rows a + body_rows h
    body_rows (goto l xs) = 0
    body_rows (jump p l xs) = 0
    body_rows (branch q xs a b) = test_rows q + body_rows a + body_rows b
    body_rows (switch x bs) = bodies_rows bs
    body_rows (tail p c xs) = 0
    body_rows (ret x) = 0
    body_rows (raise x) = 0

    pub bodies_rows : Bodies → ℕ
    bodies_rows (last b) = body_rows b
    bodies_rows (arm i b bs) = body_rows b + bodies_rows bs

  abbrev pub funs_rows : List Fun → ℕ
  funs_rows [] = 0
  funs_rows (g ∷ funs) = body_rows g.body + funs_rows funs

-- a set, and one for each member
abbrev pub sets_nodes : List (List Member) → ℕ
sets_nodes [] = 0
sets_nodes (set ∷ sets) = 1 + length set + sets_nodes sets

-- A function's code is at most six instructions a node beside its primitives, a routine of a set four a member, equality eleven a part of the types.
abbrev pub CodeIsShort : Type 0
CodeIsShort =
    (rows : Rows) → AreRight rows → (texts : List (List ℕ)) (p : Program)
    → length (code_of rows texts p)
    ≤ 10 + 6 * nodes_funs p.funs + funs_rows rows p.funs + 11 * shapes_nodes p.tables.types + 4 * sets_nodes p.tables.sets

-- a text takes a word and one for each byte, the empty text none
abbrev pub words_in : List ℕ → ℕ
words_in [] = 0
words_in (c ∷ t) = 2 + length t

abbrev pub words_of : List (List ℕ) → ℕ
words_of [] = 0
words_of (t ∷ ts) = words_in t + words_of ts

-- each string and each text of an identifier is there once
abbrev pub ConstantsAreShort : Type 0
ConstantsAreShort =
    (rows : Rows) (texts : List (List ℕ)) (p : Program)
    → length (constants_of rows texts p) ≡ 2 + words_of p.tables.strings + words_of texts + 3 * length p.tables.initial
