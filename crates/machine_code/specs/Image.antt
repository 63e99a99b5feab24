-- The image of a program.
use Rattle.std.specs.Prelude.{ℕ, zero, suc, ◌+◌, ◌*◌, ◌^◌, max, List, [], ◌∷◌, ◌++◌, length, map, false, get_or}
use Rattle.ir_code.specs.declared.instr.Instr.{Instr}
use Rattle.ir_code.specs.declared.instr.Instr.TheVariants.{Li, Call as CallRow, End, Ld}
use Rattle.ir_code.specs.Program as machine
use Rattle.ir_ssa.specs.of_ir_values.Primitives.{raised_name}
use Rattle.ir_ssa.specs.of_first_values.Equality.{Shape}
use Rattle.ir_ssa.specs.of_first_values.Operations.{Member}
use Rattle.ir_ssa.specs.Tree.{Fun, Program}
use Rattle.machine_routines.specs.EqualCode.{offset_of, place, shape_size, equal_code}
use Rattle.machine_routines.specs.FindCode.{Target, Way, way_of, way_size, way_code}
use Rattle.machine_code.specs.Rows.{Rows}
use Rattle.machine_code.specs.Code.{Places, size, with_params, code_at}

-- Constants: the words 0 and 1, which are unit and the truth values; strings; what identifiers of exceptions are written as; the names of the first exceptions;
-- and a packet of each.

-- a text's words: none for the empty text, which the word 0 is
abbrev pub text_word : List ℕ → List ℕ
text_word [] = []
text_word (c ∷ t) = suc (length t) ∷ c ∷ t

abbrev pub text_words : List (List ℕ) → List ℕ
text_words [] = []
text_words (t ∷ ts) = text_word t ++ text_words ts

abbrev pub place_of : ℕ → List ℕ → ℕ
place_of x [] = 0
place_of x (c ∷ t) = x

abbrev pub text_place : ℕ → List (List ℕ) → ℕ → ℕ
text_place x [] i = 0
text_place x (t ∷ ts) zero = place_of x t
text_place x (t ∷ ts) (suc i) = text_place (x + length (text_word t)) ts i

-- packets of so many names, from the address a on, with unit
abbrev pub packet_words : ℕ → ℕ → List ℕ
packet_words a zero = []
packet_words a (suc n) = a ∷ 0 ∷ packet_words (a + 1) n

-- what an identifier is written as
abbrev pub text_of : List (List ℕ) → ℕ → List ℕ
text_of texts i = get_or texts i []

-- Functions.

module _ (rows : Rows) (types : List Shape) where
  abbrev pub fun_size : Fun → ℕ
  fun_size g = size rows types (length g.params) (with_params g.params 0 []) [] g.body

  abbrev pub funs_size : List Fun → ℕ
  funs_size [] = 0
  funs_size (g ∷ funs) = fun_size g + funs_size funs

  abbrev pub fun_place : ℕ → List Fun → ℕ → ℕ
  fun_place pc [] i = pc
  fun_place pc (g ∷ funs) zero = pc
  fun_place pc (g ∷ funs) (suc i) = fun_place (pc + fun_size g) funs i

abbrev pub funs_code : Places → ℕ → List Fun → List Instr
funs_code at pc [] = []
funs_code at pc (g ∷ funs) =
    code_at at pc (length g.params) (with_params g.params 0 []) [] g.body ++ funs_code at (pc + fun_size at.rows at.types g) funs

-- Calls of one of a set: for each set a routine, which is entered as the function is.

abbrev pub params_of : List Fun → ℕ → ℕ
params_of [] i = 0
params_of (g ∷ funs) zero = length g.params
params_of (g ∷ funs) (suc i) = params_of funs i

-- the most parameters of a member, the closure among them
abbrev pub widest : List Fun → List Member → ℕ
widest funs [] = 1
widest funs (m ∷ ms) = max (params_of funs m.function) (widest funs ms)

abbrev pub tags_end : List Target → ℕ
tags_end [] = 0
tags_end (m ∷ ms) = max (suc m.tag) (tags_end ms)

-- the places of the members
abbrev pub placed : (ℕ → ℕ) → List Member → List Target
placed fun_at [] = []
placed fun_at (m ∷ ms) = record { tag = m.tag; place = fun_at m.function } ∷ placed fun_at ms

abbrev pub set_way : List Target → Way
set_way set = way_of false 0 (tags_end set) set

-- at this place, for members with at most k parameters: the tag of the closure goes behind them
abbrev pub set_code : ℕ → ℕ → List Target → List Instr
set_code pc k set = Li (k + 3) 0 ∷ Ld (k + 2) 2 0 ∷ way_code set (pc + 2) (k + 2) (k + 3) 0 (set_way set)

abbrev pub set_size : List Target → ℕ
set_size set = 2 + way_size (set_way set)

module _ (funs : List Fun) (fun_at : ℕ → ℕ) where
  abbrev pub sets_code : ℕ → List (List Member) → List Instr
  sets_code pc [] = []
  sets_code pc (s ∷ sets) = set_code pc (widest funs s) (placed fun_at s) ++ sets_code (pc + set_size (placed fun_at s)) sets

  abbrev pub set_place : ℕ → List (List Member) → ℕ → ℕ
  set_place pc [] i = pc
  set_place pc (s ∷ sets) zero = pc
  set_place pc (s ∷ sets) (suc i) = set_place (pc + set_size (placed fun_at s)) sets i

-- The program.

abbrev pub shapes_size : List Shape → List Shape → ℕ
shapes_size shapes [] = 0
shapes_size shapes (s ∷ ss) = shape_size shapes s + shapes_size shapes ss

-- more than an image has instructions
abbrev pub most_code : ℕ
most_code = 2 ^ 27

module _ (rows : Rows) (texts : List (List ℕ)) (p : Program) where
  abbrev pub names_at : ℕ
  names_at = 2 + length (text_words p.tables.strings)

  abbrev pub initial_at : ℕ
  initial_at = names_at + length (text_words texts)

  abbrev pub packets_at : ℕ
  packets_at = initial_at + length p.tables.initial

  abbrev pub first_texts : List ℕ
  first_texts = 0 ∷ 1 ∷ (text_words p.tables.strings ++ text_words texts)

  abbrev pub first_names : List ℕ
  first_names = map (text_place names_at texts) p.tables.initial

  abbrev pub first_packets : List ℕ
  first_packets = packet_words initial_at (length p.tables.initial)

  abbrev pub constants_of : List ℕ
  constants_of = first_texts ++ (first_names ++ first_packets)

  -- the routine of comparisons begins at 2
  abbrev pub funs_at : ℕ
  funs_at = 10 + shapes_size p.tables.types p.tables.types

  abbrev pub sets_at : ℕ
  sets_at = funs_at + funs_size rows p.tables.types p.funs

  abbrev pub fun_at : ℕ → ℕ
  fun_at = fun_place rows p.tables.types funs_at p.funs

  abbrev pub places_of : Places
  places_of = record {
    rows = rows;
    types = p.tables.types;
    text_at = text_place 2 p.tables.strings;
    name_at = text_place names_at texts;
    initial_at = λ n. initial_at + n;
    packet_at = λ e. packets_at + 2 * raised_name e;
    fun_at = fun_at;
    set_at = set_place p.funs fun_at sets_at p.tables.sets;
    type_at = λ t. place p.tables.types 2 most_code (offset_of p.tables.types t);
  }

  abbrev pub code_of : List Instr
  code_of =
      CallRow (fun_at 0) 0 ∷ End
      ∷ (equal_code p.tables.types 2 most_code ++ (funs_code places_of funs_at p.funs ++ sets_code p.funs fun_at sets_at p.tables.sets))

  abbrev pub image_of : machine.Program
  image_of = record { constants = constants_of; code = code_of }
