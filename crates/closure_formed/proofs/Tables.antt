-- The tables of a conversion: types are of types, and tags rise along each set.
use Rattle.std.proofs.Common.{◌≡◌, ℕ, zero, suc, ◌≤◌, Bool, true, false, List, [], ◌∷◌, length, Option, nat_eq, if◌then◌else◌, refl, sym, ap, subst, arith}
use Rattle.std.specs.Prelude.{⊤}
use Rattle.std.specs.List.{AllByRecursion}
use Rattle.ty_core.specs.Types.{arrow, labels, name}
use Rattle.ir_mono.specs.Types as table
use Rattle.ir_mono.specs.Types.{Node, node, bool_number}
use Rattle.ir_poly.specs.Types.{int_name, word_name, char_name, string_name, ref_name}
use Rattle.first_values.specs.Equality.{Shape, numbers, texts, references, cells}
use Rattle.first_values.specs.WellFormed.{IsShape}
use Rattle.flow_sets.specs.ByType.{Bound, bound_in}
use Rattle.closure_meaning.specs.Convert.{part_types, parts_among, shape_of, shapes_from}
use Rattle.closure_whole.specs.Rising.{is_function, functions_from, above, rising_from}
use Rattle.closure_formed.specs.Tables.{Below, NodeBelow, RowBelow, Ascends}

-- Sets

abbrev NoLess : ℕ → List ℕ → Type 0
NoLess k [] = ⊤
NoLess k (x ∷ xs) = k ≤ x

rise-more : (k : ℕ) (ks : List ℕ) → NoLess (suc k) ks → Ascends ks → Ascends (k ∷ ks)
rise-more k [] l r = tt
rise-more k (x ∷ xs) l r = (omega (arith, l), r)

weaker : (k : ℕ) (ks : List ℕ) → NoLess (suc k) ks → NoLess k ks
weaker k [] l = tt
weaker k (x ∷ xs) l = omega (arith, l)

record Rising (k : ℕ) (ks : List ℕ) : Type 0 where
  first : NoLess k ks
  rises : Ascends ks

one-more : (x : ℕ) (ks : List ℕ) (b : Bool) → Rising (suc x) ks → Rising x (if b then x ∷ ks else ks)
one-more x ks true h = record { first = omega arith; rises = rise-more x ks h.first h.rises }
one-more x ks false h = record { first = weaker x ks h.first; rises = h.rises }

functions-rise : (t x m : ℕ) (bs : List Bound) → Rising x (functions_from t x m bs)
functions-rise t x zero bs = record { first = tt; rises = tt }
functions-rise t x (suc m) bs = one-more x (functions_from t (suc x) m bs) (is_function t (bound_in x bs)) (functions-rise t (suc x) m bs)

pub sets-ascend : (t m : ℕ) (bs : List Bound) → AllByRecursion Ascends (rising_from t m bs)
sets-ascend t zero bs = tt
sets-ascend t (suc m) bs = ((functions-rise t zero (above bs) bs).rises, sets-ascend (suc t) m bs)

-- Types

pub length-shapes : (i : ℕ) (types : List table.Row) → length (shapes_from i types) ≡ length types
length-shapes i [] = refl
length-shapes i (r ∷ rs) = ap suc (length-shapes (suc i) rs)

module _ (all : List Shape) where
  abbrev Rows : List (List ℕ) → Type 0
  Rows ps = AllByRecursion (AllByRecursion (Below (length all))) ps

  parts-below : (truths : Bool) (ks : List (ℕ × Option ℕ)) → Rows (part_types ks) → Rows (parts_among truths ks)
  parts-below true ks h = (tt, (tt, h))
  parts-below false ks h = h

  record Fine (x : Shape) : Type 0 where
    shape : IsShape all x

  fine : (x : Shape) → IsShape all x → Fine x
  fine x h = record { shape = h }

  either : {x y : Shape} (b : Bool) → Fine x → Fine y → Fine (if b then x else y)
  either true h g = h
  either false h g = g

  shape-below : (truths : Bool) (r : table.Row) (k : Node) → NodeBelow (length all) k → Rows (part_types r.constructors) → IsShape all (shape_of truths r k)
  shape-below truths r (node arrow ps) h g = tt
  shape-below truths r (node (labels ls) ps) h g = (h, tt)
  shape-below truths r (node (name y) ps) h g =
      (either (nat_eq y.stamp string_name.stamp) (fine texts tt) (either (nat_eq y.stamp ref_name.stamp) (fine references tt) (either (nat_eq y.stamp int_name.stamp) (fine numbers tt)
      (either (nat_eq y.stamp word_name.stamp) (fine numbers tt) (either (nat_eq y.stamp char_name.stamp) (fine numbers tt) (fine (cells (parts_among truths r.constructors)) (parts-below truths r.constructors g))))))).shape

  shapes-below : (i : ℕ) (types : List table.Row) → AllByRecursion (RowBelow (length all)) types → AllByRecursion (IsShape all) (shapes_from i types)
  shapes-below i [] h = tt
  shapes-below i (r ∷ rs) h = (shape-below (nat_eq i bool_number) r r.type h.0.parts h.0.arguments, shapes-below (suc i) rs h.1)

pub are-shapes : (types : List table.Row) → AllByRecursion (RowBelow (length types)) types → AllByRecursion (IsShape (shapes_from 0 types)) (shapes_from 0 types)
are-shapes types h = shapes-below (shapes_from 0 types) 0 types (subst (λ n. AllByRecursion (RowBelow n) types) (sym (length-shapes 0 types)) h)
