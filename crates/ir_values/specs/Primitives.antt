-- Primitives, and calls of what is a function: they take a turn. [Definition 6.7, rules 101 to 108, and Appendix D]
use Rattle.std.specs.Prelude.{ℕ, zero, suc, Bool, true, false, not, ◌||◌, List, [], ◌∷◌, Option, Some, None, option_map, option_and_then, if◌then◌else◌}
use Rattle.mlc_runs.specs.Run.{World, Answer, gives, raises, or_fail, fail, take_turn, writes, new_reference, assign}
use Rattle.mlc_runs.specs.of_mlc_names.declared.label.Label.TheVariants.{Number}
use Rattle.mlc_base.specs.declared.place.Place.{Place}
use Rattle.mlc_prims.specs.LitOf.{Literal, string}
use Rattle.mlc_prims.specs.PrimOf.{Gives, made, raised}
use Rattle.mlc_prims.specs.Table.{row_of}
use Rattle.mlc_prims.specs.declared.basis.BasisPrimitive.{BasisPrimitive}
use Rattle.mlc_prims.specs.declared.basis.BasisPrimitive.TheVariants.{Add, Subtract, Multiply, Divide, Modulo, Negate, Less, LessEqual, Greater, GreaterEqual, Equals, Assign, Print}
use Rattle.mlc_prims.specs.declared.prim.PrimExn.{PrimExn}
use Rattle.mlc_prims.specs.declared.prim.PrimExn.TheVariants.{Overflow, Div, Subscript, Size, Chr}
use Rattle.ir_values.specs.Tags.{Tagging}
use Rattle.ir_values.specs.Values.{Value, record_of, con, con_of, exn, exn_of, ref, address, cell, primitive, closure, Fields, Env, field_in, count, literal_in, address_in, packet_name, unit_value, truth_value, value_of}
use Rattle.ir_values.specs.Equality.{same_at}

-- The exceptions of the initial basis have the first names, in this order.

abbrev pub match_name : ℕ
match_name = 0

abbrev pub bind_name : ℕ
bind_name = 1

abbrev pub raised_name : PrimExn → ℕ
raised_name Overflow = 2
raised_name Div = 3
raised_name Subscript = 4
raised_name Size = 5
raised_name Chr = 6

-- which primitives look at the state or change it, or at all values; the others are those of the table
pub data Sort : Type 0 where
  compares : Sort
  assigns : Sort
  prints : Sort
  computes : Sort

abbrev pub sort_of : BasisPrimitive → Sort
sort_of Equals = compares
sort_of Assign = assigns
sort_of Print = prints
sort_of p = computes

-- which primitives have a choice of types [Definition, Appendix E]
abbrev pub is_overloaded : BasisPrimitive → Bool
is_overloaded Add = true
is_overloaded Subtract = true
is_overloaded Multiply = true
is_overloaded Divide = true
is_overloaded Modulo = true
is_overloaded Negate = true
is_overloaded Less = true
is_overloaded LessEqual = true
is_overloaded Greater = true
is_overloaded GreaterEqual = true
is_overloaded p = false

module _ {B C T : Type 0} where
  abbrev pub literals : List (Value B C T) → Option (List Literal)
  literals [] = Some []
  literals (v ∷ vs) = option_and_then (λ l. option_map (λ ls. l ∷ ls) (literals vs)) (literal_in v)

  -- n fields, with the labels from k on
  abbrev pub parts : ℕ → ℕ → Fields B C T → Option (List (Value B C T))
  parts k zero fs = Some []
  parts k (suc n) fs = option_and_then (λ v. option_map (λ vs. v ∷ vs) (parts (suc k) n fs)) (field_in (Number k) fs)

  abbrev pub tuple : Value B C T → Option (List (Value B C T))
  tuple (record_of g fs) = parts 1 (count fs) fs
  tuple v = None

  -- the arguments of a primitive: those of a tuple, or the value alone
  abbrev pub arguments : Value B C T → List (Value B C T)
  arguments v = elim (tuple v) [ None ↦ v ∷ [] | Some vs ↦ vs ]

  -- a turn, where there is a place for it
  abbrev pub marked : {A : Type 0} → Option Place → World (Value B C T) → (World (Value B C T) → Answer (Value B C T) A) → Answer (Value B C T) A
  marked None w go = go w
  marked (Some place) w go = take_turn place w go

  -- only an exception is raised
  abbrev pub raise_value : Value B C T → World (Value B C T) → Answer (Value B C T) (Value B C T)
  raise_value v w = or_fail (packet_name v) w (λ n. raises v w)

module _ (K : Tagging) where
  -- whether the first argument, if there is one, is a constant of the type
  abbrev pub begin_at : K.Tag → List Literal → Bool
  begin_at g [] = true
  begin_at g (l ∷ ls) = K.has_literal g l

  -- the row of a primitive at a type: one that has a choice of types takes constants of this one
  abbrev pub row_at : K.Tag → BasisPrimitive → List Literal → Option Gives
  row_at g p ls = if not (is_overloaded p) || begin_at g ls then row_of p ls else None

module _ (K : Tagging) {B C : Type 0} where
  abbrev pub packet : ℕ → Value B C K.Tag
  packet n = exn K.of_unit n

  abbrev pub giving : Gives → World (Value B C K.Tag) → Answer (Value B C K.Tag) (Value B C K.Tag)
  giving (made l) w = gives (value_of K l) w
  giving (raised e) w = raises (packet (raised_name e)) w

  abbrev pub compare_values : K.Tag → List (Value B C K.Tag) → World (Value B C K.Tag) → Answer (Value B C K.Tag) (Value B C K.Tag)
  compare_values g (v ∷ u ∷ []) w = or_fail (same_at K g v u) w (λ b. gives (truth_value K b) w)
  compare_values g vs w = fail w

  abbrev pub assign_value : K.Tag → List (Value B C K.Tag) → World (Value B C K.Tag) → Answer (Value B C K.Tag) (Value B C K.Tag)
  assign_value g (r ∷ v ∷ []) w = or_fail (address_in r) w (λ a. assign a (cell g v) w (gives (unit_value K)))
  assign_value g vs w = fail w

  abbrev pub print_literals : List Literal → World (Value B C K.Tag) → Answer (Value B C K.Tag) (Value B C K.Tag)
  print_literals (string s ∷ []) w = gives (unit_value K) (writes s w)
  print_literals ls w = fail w

  abbrev pub perform_as : Sort → K.Tag → BasisPrimitive → List (Value B C K.Tag) → World (Value B C K.Tag) → Answer (Value B C K.Tag) (Value B C K.Tag)
  perform_as compares g p vs w = compare_values g vs w
  perform_as assigns g p vs w = assign_value g vs w
  perform_as prints g p vs w = or_fail (literals vs) w (λ ls. print_literals ls w)
  perform_as computes g p vs w = or_fail (literals vs) w (λ ls. or_fail (row_at K g p ls) w (λ r. giving r w))

  -- a primitive at a type, with these arguments
  abbrev pub perform : K.Tag → BasisPrimitive → List (Value B C K.Tag) → World (Value B C K.Tag) → Answer (Value B C K.Tag) (Value B C K.Tag)
  perform g p vs w = perform_as (sort_of p) g p vs w

  abbrev pub make_reference : K.Tag → Value B C K.Tag → World (Value B C K.Tag) → Answer (Value B C K.Tag) (Value B C K.Tag)
  make_reference g v w = new_reference (cell g v) w (λ a. gives (address a))

  -- what a reference holds
  abbrev pub content_of : K.Tag → World (Value B C K.Tag) → Value B C K.Tag → Answer (Value B C K.Tag) (Value B C K.Tag)
  content_of g w (cell h v) = if K.same g h then gives v w else fail w
  content_of g w v = fail w

  -- a function is given an argument; bodies are evaluated by go
  abbrev pub enter : (C → Env B C K.Tag → Value B C K.Tag → World (Value B C K.Tag) → Answer (Value B C K.Tag) (Value B C K.Tag)) → Place → Value B C K.Tag
      → Value B C K.Tag → World (Value B C K.Tag) → Answer (Value B C K.Tag) (Value B C K.Tag)
  enter go place (con g c) v w = take_turn place w (gives (con_of g c v))
  enter go place (exn g n) v w = take_turn place w (gives (exn_of g n v))
  enter go place (ref g) v w = take_turn place w (make_reference g v)
  enter go place (primitive g p) v w = take_turn place w (perform g p (arguments v))
  enter go place (closure c env) v w = take_turn place w (go c env v)
  enter go place f v w = fail w
