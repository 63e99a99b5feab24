-- Bindings that are generalised, in the words of the pass. While they are made, their parameters are in scope.
use Rattle.std.specs.Prelude.{ℕ, suc, List, [], ◌∷◌, map, Option, Some, None}
use Rattle.mlc_names.specs.declared.label.Label.{Label}
use Rattle.mlc_names.specs.declared.label.Label.TheVariants.{Number}
use Rattle.ty_core.specs.Types.{Typ}
use Rattle.ty_core.specs.declared.scheme.Quantified.{Quantified}
use Rattle.ir_plain.specs.Tree as te
use Rattle.ir_poly.specs.Tests.{Tests, poly}
use Rattle.ir_values.specs.Primitives.{bind_name}
use Rattle.ir_tables.specs.Tables.{parameters_at}
use Rattle.match_compile.specs.Compile.{Spots, no_spots, spot, Shape, alone, recorded, scoped, atom, part, record_type, spots, tests, past_pat, past_split, split_spots, together, otherwise, initial}
use Rattle.plain_tree.specs.declared.tree.Field.{Field}
use Rattle.prog_tree.specs.TreeOf.{pat_of}
use Rattle.prog_tree.specs.declared.tree.Pat.{Pat}
use Rattle.pattern_tests.specs.of_match_types.Views.{View, value_type, in_view}
use Rattle.pattern_tests.specs.of_match_types.declared.work.ValueType.{ValueType}
use Rattle.pattern_tests.specs.declared.spots.Spot.{Spot}

-- the parameters of the list k
abbrev pub listed : (k : ℕ) → View → List Quantified
listed k v = parameters_at v.parameters k

-- a type, over the parameters in scope
abbrev pub over_scope : (View → Typ) → View → Typ
over_scope u v = scoped v.scope (u v)

-- a new variable n of type t with the value of an operation
abbrev pub placing : (View → Typ) → (n : ℕ) → (View → te.Op poly) → View → Tests → Tests
placing t n g v rest = te.let_in n [] (t v) (g v) rest

-- a new variable n of type t, generalised over the list k, with the value of a block
abbrev pub general : (k n : ℕ) → (View → Typ) → (View → Tests) → View → Tests → Tests
general k n t g v rest = te.let_in n (listed k v) (t v) (te.block (g v)) rest

-- Variables, the latest first

abbrev pub spots_before : View → List Spot → Spots → Spots
spots_before v [] us = us
spots_before v (s ∷ ss) us = spot s.variable s.number (value_type v s.ty) (spots_before v ss us)

abbrev pub spots_of : View → List Spot → Spots
spots_of v ss = spots_before v ss no_spots

abbrev pub types_of : View → List Spot → List Typ
types_of v ss = map (λ s. value_type v s.ty) ss

-- the type of the record of all of them
abbrev pub whole : List Spot → View → Typ
whole ss v = record_type (spots_of v ss)

-- labels from l on
abbrev pub labels_from : (l : ℕ) → List Spot → List Label
labels_from l [] = []
labels_from l (s ∷ ss) = Number l ∷ labels_from (suc l) ss

abbrev pub fields_from : (l : ℕ) → List Spot → List Field
fields_from l [] = []
fields_from l (s ∷ ss) = record { label = Number l; atom = s.number } ∷ fields_from (suc l) ss

-- Patterns that aren't a variable alone

-- each variable is a field of the record r, of type u, from the label l on; new variables are numbered from k on
abbrev pub splitting : List Quantified → List Quantified → Typ → (r : ℕ) → Spots → (l k : ℕ) → Tests → Tests
splitting E qs u r no_spots l k rest = rest
splitting E qs u r (spot x a t vs) l k rest =
    te.let_in (suc (suc k)) qs (scoped E t) (te.block (part E qs u r l t k)) (splitting E qs u r vs (suc l) (suc (suc (suc k))) rest)

-- where the variables of a pattern for the value a are, with new variables from n on
abbrev pub found : Pat → ValueType → (n a : ℕ) → View → Spots
found p u n a v = spots (pat_of v.source p) (value_type v u) n a no_spots

abbrev pub past : Pat → (n : ℕ) → View → ℕ
past p n v = past_pat (pat_of v.source p) n

-- the record of a pattern's variables, behind f, which makes the value a; Bind is raised where the pattern fails
abbrev pub recording : Pat → ValueType → (n a : ℕ) → (View → Tests → Tests) → View → Tests
recording p u n a f v =
    te.first (f v (tests v.scope v.names (pat_of v.source p) (value_type v u) n a (together v.scope (found p u n a v) (past p n v))))
    (otherwise v.scope (suc (past p n v)) (record_type (found p u n a v)) a (initial bind_name))

-- that record, generalised over the list k, and then each variable
abbrev pub separate : (k : ℕ) → Pat → ValueType → (n a : ℕ) → (View → Tests → Tests) → View → Tests → Tests
separate k p u n a f v rest =
    let vs = found p u n a v in let j = past p n v in
    general k (suc (suc j)) (over_scope (λ w. record_type (found p u n a w))) (recording p u n a f) v
    (splitting v.scope (listed k v) (record_type vs) (suc (suc j)) vs 1 (suc (suc (suc j))) rest)

-- Of one variable, or of any other pattern

abbrev pub shape_of : Option ℕ → Shape
shape_of (Some x) = alone x
shape_of None = recorded

-- the number after a binding whose value is a, where the variables are, and what it puts
abbrev pub past_of : Option ℕ → Pat → ValueType → (n a : ℕ) → View → ℕ
past_of (Some x) p u n a v = suc n
past_of None p u n a v = past_split (found p u n a v) (suc (suc (suc (past p n v))))

abbrev pub found_of : Option ℕ → Pat → ValueType → (n a : ℕ) → View → Spots → Spots
found_of (Some x) p u n a v us = spot x n (value_type v u) us
found_of None p u n a v us = split_spots (found p u n a v) (suc (suc (suc (past p n v)))) us

abbrev pub made_of : Option ℕ → (k : ℕ) → Pat → ValueType → (n a : ℕ) → (View → Tests → Tests) → View → Tests → Tests
made_of (Some x) k p u n a f = general k n (in_view u) (λ v. f v (te.ret (atom a)))
made_of None k p u n a f = separate k p u n a f
