-- The routine that compares two values of a type.
use Rattle.std.specs.Prelude.{ℕ, zero, suc, ◌+◌, List, [], ◌∷◌, ◌++◌, length, Bool, true, false, get_or}
use Rattle.ir_code.specs.declared.instr.Instr.{Instr}
use Rattle.ir_code.specs.declared.instr.Instr.TheVariants.{Li, Mov, Jmp, Brz, Switch, Ret, Alloc, Ld, St, Eq, SCmp}
use Rattle.first_values.specs.Equality.{Shape, numbers, texts, cells, references, opaque}

-- Slots of its frame: 2 the answer, 3 another word, 4 the comparisons that are pending, 5 and 6 the two values.
-- A pending comparison is four words of the heap: where it goes on, behind the head, the two cells, and the next one, or 0.

-- whether the values of a type are compared as words
abbrev pub is_word : Shape → Bool
is_word numbers = true
is_word texts = false
is_word (cells parts) = false
is_word references = true
is_word opaque = false

-- how a part is compared: as a word; as the last part; or with the parts after it pending
pub data Way : Type 0 where
  by_word : Way
  as_last : Way
  as_inner : Way

abbrev pub way_of : Bool → List ℕ → Way
way_of true ts = by_word
way_of false [] = as_last
way_of false (t ∷ ts) = as_inner

abbrev pub way_size : Way → ℕ
way_size by_word = 4
way_size as_last = 3
way_size as_inner = 10

module _ (shapes : List Shape) where
  abbrev pub way_at : ℕ → List ℕ → Way
  way_at t ts = way_of (is_word (get_or shapes t opaque)) ts

  abbrev pub parts_size : List ℕ → ℕ
  parts_size [] = 1
  parts_size (t ∷ ts) = way_size (way_at t ts) + parts_size ts

  abbrev pub tags_size : List (List ℕ) → ℕ
  tags_size [] = 0
  tags_size (ts ∷ rest) = parts_size ts + tags_size rest

  abbrev pub shape_size : Shape → ℕ
  shape_size numbers = 3
  shape_size texts = 5
  shape_size (cells parts) = 6 + (length parts + tags_size parts)
  shape_size references = 3
  shape_size opaque = 0

  abbrev pub offset_from : ℕ → List Shape → ℕ → ℕ
  offset_from o [] t = o
  offset_from o (s ∷ ss) zero = o
  offset_from o (s ∷ ss) (suc t) = offset_from (o + shape_size s) ss t

  -- where the code of a type stands, behind the head
  abbrev pub offset_of : ℕ → ℕ
  offset_of t = offset_from 2 shapes t

  -- from this place on, in code of at most so many instructions
  module _ (start most : ℕ) where
    abbrev pub place : ℕ → ℕ
    place o = start + 6 + o

    -- the two are not equal; the answer, 0, is in its slot
    abbrev pub differ : ℕ
    differ = start + 7

    abbrev pub way_code : Way → ℕ → ℕ → ℕ → List Instr
    way_code by_word o j t = Ld 2 5 j ∷ Ld 3 6 j ∷ Eq 2 2 3 ∷ Brz 2 differ ∷ []
    way_code as_last o j t = Ld 5 5 j ∷ Ld 6 6 j ∷ Jmp (place (offset_of t)) ∷ []
    way_code as_inner o j t =
        Alloc 2 4 ∷ Li 3 (o + 10) ∷ St 2 0 3 ∷ St 2 1 5 ∷ St 2 2 6 ∷ St 2 3 4 ∷ Mov 4 2 ∷ Ld 5 5 j ∷ Ld 6 6 j ∷ Jmp (place (offset_of t)) ∷ []

    -- the parts of two cells from j on
    abbrev pub parts_code : ℕ → ℕ → List ℕ → List Instr
    parts_code o j [] = Jmp start ∷ []
    parts_code o j (t ∷ ts) = way_code (way_at t ts) o j t ++ parts_code (o + way_size (way_at t ts)) (suc j) ts

    -- a jump to the code of each tag
    abbrev pub tag_table : ℕ → List (List ℕ) → List Instr
    tag_table o [] = []
    tag_table o (ts ∷ rest) = Jmp (place o) ∷ tag_table (o + parts_size ts) rest

    abbrev pub tags_code : ℕ → List (List ℕ) → List Instr
    tags_code o [] = []
    tags_code o (ts ∷ rest) = parts_code o 1 ts ++ tags_code (o + parts_size ts) rest

    -- two words
    abbrev pub word_code : List Instr
    word_code = Eq 2 5 6 ∷ Brz 2 differ ∷ Jmp start ∷ []

    -- two values of a type; where they are equal it goes on at the start
    abbrev pub shape_code : ℕ → Shape → List Instr
    shape_code o numbers = word_code
    shape_code o texts = SCmp 2 5 6 ∷ Li 3 1 ∷ Eq 2 2 3 ∷ Brz 2 differ ∷ Jmp start ∷ []
    shape_code o (cells parts) =
        Ld 2 5 0 ∷ Ld 3 6 0 ∷ Eq 2 2 3 ∷ Brz 2 differ ∷ Switch 3 (length parts)
        ∷ (tag_table (o + 6 + length parts) parts ++ (Jmp start ∷ tags_code (o + 6 + length parts) parts))
    shape_code o references = word_code
    shape_code o opaque = []

    abbrev pub shapes_code : ℕ → List Shape → List Instr
    shapes_code o [] = []
    shapes_code o (s ∷ ss) = shape_code o s ++ shapes_code (o + shape_size s) ss

    -- The head: the next pending comparison, by a computed jump; with none the answer is 1.
    abbrev pub equal_code : List Instr
    equal_code = Brz 4 (start + 6) ∷ Ld 2 4 0 ∷ Ld 5 4 1 ∷ Ld 6 4 2 ∷ Ld 4 4 3 ∷ Switch 2 most ∷ Li 2 1 ∷ Ret 2 ∷ shapes_code 2 shapes
