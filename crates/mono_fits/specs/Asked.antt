-- What a checker asks of a table of closed types, as decisions.
use Rattle.std.specs.Prelude.{ℕ, Bool, true, false, ◌&&◌, List, [], ◌∷◌, length, Option, Some, None, option_map, option_and_then, nat_eq, if◌then◌else◌}
use Rattle.mlc_names.specs.declared.label.Label.{Label}
use Rattle.mlc_prims.specs.LitOf.{Literal, int, word, char, string, truth}
use Rattle.mlc_prims.specs.declared.basis.BasisPrimitive.{BasisPrimitive}
use Rattle.ty_core.specs.Types.{Symbol, arrow, labels, name, Typ, var, con, Typs, none, more, typs_of}
use Rattle.ty_core.specs.Marks.{has, overloaded}
use Rattle.ty_core.specs.declared.mark.Class.{Class}
use Rattle.ty_core.specs.declared.mark.Mark.{Mark}
use Rattle.ty_core.specs.declared.mark.Mark.TheVariants.{Any, Equality, Class as OfClass}
use Rattle.ty_core.specs.declared.name.TyName.{TyName}
use Rattle.ir_values.specs.Values.{same_label}
use Rattle.prog_check.specs.of_ir_poly.Types.{int_name, word_name, char_name, string_name, ref_name, exn_name, prim_type}
use Rattle.prog_check.specs.of_ir_poly.TestsChecked.{is_size}
use Rattle.ir_mono.specs.Types.{Row, Node, node, node_at, constructor_at, admits, part_of, numbered}
use Rattle.prog_check.specs.Same.{same_name, same_labels, same_symbol}

-- what is there is so
abbrev pub given : {A : Type 0} → Option A → (A → Bool) → Bool
given None f = false
given (Some a) f = f a

abbrev pub same_argument : Option ℕ → Option ℕ → Bool
same_argument None None = true
same_argument None (Some n) = false
same_argument (Some m) None = false
same_argument (Some m) (Some n) = nat_eq m n

abbrev pub same_numbers : List ℕ → List ℕ → Bool
same_numbers [] [] = true
same_numbers [] (n ∷ ns) = false
same_numbers (m ∷ ms) [] = false
same_numbers (m ∷ ms) (n ∷ ns) = nat_eq m n && same_numbers ms ns

-- a node of this head, with such parts
abbrev pub headed : Symbol → (List ℕ → Bool) → Node → Bool
headed h f (node k ps) = same_symbol k h && f ps

abbrev pub is_record_node : (List Label → List ℕ → Bool) → Node → Bool
is_record_node f (node (labels ls) ps) = f ls ps
is_record_node f (node arrow ps) = false
is_record_node f (node (name y) ps) = false

abbrev pub is_name_node : (TyName → Bool) → Node → Bool
is_name_node f (node (name y) []) = f y
is_name_node f (node (name y) (p ∷ ps)) = false
is_name_node f (node arrow ps) = false
is_name_node f (node (labels ls) ps) = false

-- the type that functions of this node give, if they take the type a
abbrev pub result_in : ℕ → List ℕ → Option ℕ
result_in a [] = None
result_in a (b ∷ []) = None
result_in a (b ∷ u ∷ []) = if nat_eq b a then Some u else None
result_in a (b ∷ u ∷ p ∷ ps) = None

abbrev pub function_in : ℕ → Node → Option ℕ
function_in a (node arrow ps) = result_in a ps
function_in a (node (labels ls) ps) = None
function_in a (node (name y) ps) = None

abbrev pub class_has : Class → TyName → Bool
class_has c y = has c y.stamp && same_name y (overloaded y.stamp)

-- no two labels are one
abbrev pub is_other : Label → List Label → Bool
is_other l [] = true
is_other l (k ∷ ls) = if same_label k l then false else is_other l ls

abbrev pub are_distinct : List Label → Bool
are_distinct [] = true
are_distinct (l ∷ ls) = is_other l ls && are_distinct ls

module _ (types : List Row) where
  abbrev pub is_named : ℕ → TyName → Bool
  is_named n y = given (node_at types n) (is_name_node (λ z. same_name z y))

  abbrev pub is_exn : ℕ → Bool
  is_exn n = is_named n exn_name

  abbrev pub is_reference : ℕ → ℕ → Bool
  is_reference n a = given (node_at types n) (headed (name ref_name) (same_numbers (a ∷ [])))

  abbrev pub result_from : ℕ → ℕ → Option ℕ
  result_from n a = option_and_then (function_in a) (node_at types n)

  abbrev pub is_function : ℕ → ℕ → ℕ → Bool
  is_function n a u = given (result_from n a) (nat_eq u)

  abbrev pub has_literal : Literal → ℕ → Bool
  has_literal (int z) n = is_named n int_name
  has_literal (word k) n = is_named n word_name
  has_literal (char k) n = is_named n char_name
  has_literal (string s) n = is_named n string_name
  has_literal (truth b) n = false

  abbrev pub has_constructor : ℕ → ℕ → Option ℕ → Bool
  has_constructor n c a = given (constructor_at types n c) (same_argument a)

  -- a constructor with this argument, as a value
  abbrev pub is_alone : Option ℕ → ℕ → ℕ → Bool
  is_alone None u n = nat_eq u n
  is_alone (Some a) u n = is_function n a u

  abbrev pub is_alone_use : ℕ → ℕ → ℕ → Bool
  is_alone_use c u n = given (constructor_at types u c) (λ a. is_alone a u n)

  -- an exception with this argument, as a value
  abbrev pub is_exception : Option ℕ → ℕ → Bool
  is_exception None n = is_exn n
  is_exception (Some a) n = given (result_from n a) is_exn

  -- `ref` at the type a, as a function
  abbrev pub is_maker : ℕ → ℕ → Bool
  is_maker a n = given (result_from n a) (λ r. is_reference r a)

  abbrev pub field_of : ℕ → Label → Option ℕ
  field_of n l = option_and_then (part_of l) (node_at types n)

  abbrev pub is_sized : Option ℕ → ℕ → Bool
  is_sized size n = given (node_at types n) (is_record_node (λ ls ps. is_size size (length ls)))

  abbrev pub allows : Mark → ℕ → Bool
  allows Any n = true
  allows Equality n = admits types n
  allows (OfClass c) n = given (node_at types n) (is_name_node (class_has c))

  -- a number stands for a type, where its variables stand for u
  abbrev mutual
    pub stands : ℕ → ℕ → Typ → Bool
    stands u n (var v) = nat_eq n u
    stands u n (con h ts) = given (node_at types n) (headed h (λ ns. all_stand u ns ts))

    pub all_stand : ℕ → List ℕ → Typs → Bool
    all_stand u [] none = true
    all_stand u [] (more t ts) = false
    all_stand u (n ∷ ns) none = false
    all_stand u (n ∷ ns) (more t ts) = stands u n t && all_stand u ns ts

  -- a primitive's argument as a function, or the tuple of its arguments
  abbrev pub tuple_stands : ℕ → ℕ → List Typ → Bool
  tuple_stands u n [] = given (node_at types n) (headed (labels []) (same_numbers []))
  tuple_stands u n (t ∷ []) = stands u n t
  tuple_stands u n (t ∷ s ∷ ts) = given (node_at types n) (is_record_node (λ ls ns. same_labels ls (numbered 1 ns) && all_stand u ns (typs_of (t ∷ s ∷ ts))))

  abbrev pub function_stands : BasisPrimitive → ℕ → List ℕ → Bool
  function_stands p u [] = false
  function_stands p u (a ∷ []) = false
  function_stands p u (a ∷ r ∷ []) = tuple_stands u a (prim_type p).arguments && stands u r (prim_type p).result
  function_stands p u (a ∷ r ∷ q ∷ ps) = false

  -- a primitive at the type u, as a function
  abbrev pub is_primitive : BasisPrimitive → ℕ → ℕ → Bool
  is_primitive p u n = allows (prim_type p).mark u && given (node_at types n) (headed arrow (function_stands p u))

  -- a primitive at the type u, with arguments of these types
  abbrev pub performs : BasisPrimitive → ℕ → List ℕ → ℕ → Bool
  performs p u ns r = allows (prim_type p).mark u && (all_stand u ns (typs_of (prim_type p).arguments) && stands u r (prim_type p).result)
