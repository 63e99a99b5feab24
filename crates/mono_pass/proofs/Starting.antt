-- The first types and constructors.
use Rattle.std.proofs.Common.{◌≡◌, ◌<◌, ◌≤◌, ◌+◌, ℕ, zero, suc, Bool, true, false, List, [], ◌∷◌, ◌++◌, length, take, Some, None, slice_get, get_or, nat_lt, if◌then◌else◌, refl, sym, ap, ap₂, ◌∙◌, subst, arith}
use Rattle.std.specs.Prelude.{slice_set}
use Rattle.std.proofs.lemmas.Bool.{ltb-true, ltb-false}
use Rattle.std.proofs.lemmas.List.{append_assoc, map-append, get_or-take, length-take, take_more, take_all}
use Rattle.std.proofs.lemmas.Option.{slice_get_within, get_or_from_slice_get}
use Rattle.ty_core.specs.Types.{labels, name, Typ, var}
use Rattle.ty_table.specs.TypeAt.{type_at}
use Rattle.ir_values.specs.Values.{true_number, false_number}
use Rattle.ir_poly.specs.Types.{bool_name, exn_name, list_type, pair_type}
use Rattle.ir_tables.specs.Rows.{constructor_at, constructors_at}
use Rattle.ir_tables.specs.declared.constructors.Constructor.{Constructor}
use Rattle.ir_mono.specs.Types.{Row, node}
use Rattle.ir_mono.specs.Growing.{with_constructor}
use Rattle.mono_types.specs.Rows.{IsEntered}
use Rattle.monomorphise.specs.Table.{place, first_types}
use Rattle.mono_pass.specs.Extending.{Extends}

-- unit, truth values and exceptions, without constructors
abbrev bool_row : Row
bool_row = record { type = node (name bool_name) []; constructors = []; equality = true }

abbrev bare_first : List Row
bare_first = record { type = node (labels []) []; constructors = []; equality = true } ∷ bool_row ∷ record { type = node (name exn_name) []; constructors = []; equality = false } ∷ []

pub placed-first : (a b c d : List Row) → a ≡ [] → (place a (node (labels []) [])).0 ≡ b → (place b (node (name bool_name) [])).0 ≡ c → (place c (node (name exn_name) [])).0 ≡ d → bare_first ≡ d
placed-first a b c d e f g h =
    ap (λ t. (place (place (place t (node (labels []) [])).0 (node (name bool_name) [])).0 (node (name exn_name) [])).0) (sym e)
    ∙ ap (λ t. (place (place t (node (name bool_name) [])).0 (node (name exn_name) [])).0) f ∙ ap (λ t. (place t (node (name exn_name) [])).0) g ∙ h

-- one constructor more
abbrev true_first : List Row
true_first = slice_set bare_first 1 (with_constructor bool_row true_number None)

pub first-length : (d : List Row) → bare_first ≡ d → 1 < length d
first-length d e = subst (λ l. 1 < length l) e (omega arith)

pub true-entered : (d t : List Row) → bare_first ≡ d → IsEntered d 1 true_number None t → t ≡ true_first
true-entered d t e h = let k = subst (λ l. IsEntered l 1 true_number None t) (sym e) h in k.added bool_row refl refl

pub true-length : (d t : List Row) → bare_first ≡ d → IsEntered d 1 true_number None t → 1 < length t
true-length d t e h = subst (λ l. 1 < length l) (sym (true-entered d t e h)) (omega arith)

pub first-entered : (d t u : List Row) → bare_first ≡ d → IsEntered d 1 true_number None t → IsEntered t 1 false_number None u → u ≡ first_types
first-entered d t u e h i =
    let k = subst (λ l. IsEntered l 1 false_number None u) (true-entered d t e h) i in
    k.added (with_constructor bool_row true_number None) refl refl

-- A table that grows.

type-stays : (ts us : List Typ) (k : ℕ) → take (length ts) us ≡ ts → k < length ts → type_at us k ≡ type_at ts k
type-stays ts us k e lt = sym (get_or-take (length ts) us k (var 0) lt) ∙ ap (λ l. type_at l k) e

type-past : (ts : List Typ) (k : ℕ) → length ts ≤ k → type_at ts k ≡ var 0
type-past [] k h = refl
type-past (t ∷ ts) zero h = absurd (omega (arith, h))
type-past (t ∷ ts) (suc k) h = type-past ts k (omega (arith, h))

pub held-is : (ts : List Typ) (k : ℕ) (t : Typ) → slice_get ts k ≡ Some t → type_at ts k ≡ t
held-is ts k t e = get_or_from_slice_get ts k t (var 0) e

pub held-within : (ts : List Typ) (k : ℕ) (t : Typ) → slice_get ts k ≡ Some t → k < length ts
held-within ts k t e = slice_get_within ts k t e

-- the argument of a list's constructor, made in three steps
pub cell-is : (b c d : List Typ) (v l n : ℕ) → take (length b) c ≡ b → take (length c) d ≡ c → slice_get b v ≡ Some (var 0) → type_at c l ≡ list_type (type_at b v)
    → type_at d n ≡ pair_type (type_at c v) (type_at c l) → type_at d n ≡ pair_type (var 0) (list_type (var 0))
cell-is b c d v l n s t held e f =
    let first = held-is b v (var 0) held in
    f ∙ ap₂ pair_type (type-stays b c v s (held-within b v (var 0) held) ∙ first) (e ∙ ap list_type first)

pub variable-is : (b c d : List Typ) (v : ℕ) → take (length b) c ≡ b → take (length c) d ≡ c → slice_get b v ≡ Some (var 0) → v < length c → type_at d v ≡ var 0
variable-is b c d v s t held lt = type-stays c d v t lt ∙ type-stays b c v s (held-within b v (var 0) held) ∙ held-is b v (var 0) held

pub length-longer : (ts us : List Typ) (k : ℕ) → take (length ts) us ≡ ts → k < length ts → k < length us
length-longer ts us k e lt = let n = length-take (length ts) us in let m = ap length e in omega (arith, n, m, lt)

-- one more constructor
pub moved-one : (old new : List Typ) (known variable k : ℕ) → Extends old new known variable → type_at new (if nat_lt k known then k else variable) ≡ type_at old k
moved-one old new known variable k x = by (nat_lt k known) refl
  where
    by : (b : Bool) → nat_lt k known ≡ b → type_at new (if b then k else variable) ≡ type_at old k
    by true e = type-stays old new k x.stay (let p = ltb-true k known e in let q = x.known_is in omega (arith, p, q))
    by false e = x.variable_is ∙ sym (type-past old k (let p = ltb-false k known e in let q = x.known_is in omega (arith, p, q)))

pub one-added : (old new : List Typ) (all more rows : List Constructor) (i : ℕ) (d k : Constructor) → i < length rows → constructors_at new all ≡ constructors_at new more ++ constructors_at old (take i rows) → constructor_at new k ≡ constructor_at old (get_or rows i d)
    → constructors_at new (all ++ k ∷ []) ≡ constructors_at new more ++ constructors_at old (take (i + 1) rows)
one-added old new all more rows i d k lt e f =
    map-append (constructor_at new) all (k ∷ []) ∙ ap₂ (λ l x. l ++ x ∷ []) e f ∙ append_assoc (constructors_at new more) (constructors_at old (take i rows)) (constructor_at old (get_or rows i d) ∷ [])
    ∙ ap (λ l. constructors_at new more ++ l) (sym (map-append (constructor_at old) (take i rows) (get_or rows i d ∷ [])) ∙ ap (constructors_at old) (sym (take_more rows i d lt)))

pub all-added : (old new : List Typ) (all more rows : List Constructor) (i : ℕ) → length rows ≤ i → constructors_at new all ≡ constructors_at new more ++ constructors_at old (take i rows) → constructors_at new all ≡ constructors_at new more ++ constructors_at old rows
all-added old new all more rows i lt e = e ∙ ap (λ l. constructors_at new more ++ constructors_at old l) (take_all i rows lt)
