-- A type that was placed stays where it is.
use Rattle.std.proofs.Common.{◌≡◌, ℕ, zero, suc, ◌+◌, ◌<◌, ◌≤◌, Bool, true, false, ◌&&◌, List, [], ◌∷◌, ◌++◌, length, drop, Option, Some, None, option_map, nat_eq, slice_index_or, if◌then◌else◌, refl, sym, ap, ap₂, ◌∙◌, subst, arith}
use Rattle.std.proofs.lemmas.Bool.{and_from, eq-eqb}
use Rattle.ty_core.specs.Types.{Symbol, Typ, var, con, Typs, none, more, attribute, allowed}
use Rattle.ir_mono.specs.Types.{Row, Node, node, node_at, admits}
use Rattle.mono_types.specs.Rows.{IsPlaced as IsPut, AreOnce, new_row}
use Rattle.monomorphise.specs.Simple.{all_flagged, nth_part}
use Rattle.monomorphise.specs.Table.{same_numbers, same_node, position, row_of, placed, place, place_type, place_all}
use Rattle.monomorphise.specs.Monomorphise.{same_symbol}
use Rattle.monomorphise.proofs.Names.{symbol-same}
use Rattle.monomorphise.proofs.Placed.{Position, position-right, Longer, longer-itself, longer-then}
use Rattle.mono_place.specs.Placing.{IsPlaced, placed_var, placed_con, ArePlaced, placed_none, placed_more}

-- nodes

numbers-same : (ns : List ℕ) → same_numbers ns ns ≡ true
numbers-same [] = refl
numbers-same (n ∷ ns) = and_from (nat_eq n n) (same_numbers ns ns) (eq-eqb n n refl) (numbers-same ns)

pub node-same : (k : Node) → same_node k k ≡ true
node-same (node h ps) = and_from (same_symbol h h) (same_numbers ps ps) (symbol-same h) (numbers-same ps)

position-still : (k : Node) (types rest : List Row) (n : ℕ) → position k types ≡ Some n → position k (types ++ rest) ≡ Some n
position-still k [] rest n e = absurd (cc)
position-still k (r ∷ types) rest n e = by (same_node r.type k) n e (λ m i. position-still k types rest m i)
  where
    later : (o : Option ℕ) (n : ℕ) → ((m : ℕ) → o ≡ Some m → position k (types ++ rest) ≡ Some m) → option_map suc o ≡ Some n → option_map suc (position k (types ++ rest)) ≡ Some n
    later None n h e = absurd (cc)
    later (Some m) n h e = ap (option_map suc) (h m refl) ∙ e

    by : (b : Bool) (n : ℕ) → (if b then Some 0 else option_map suc (position k types)) ≡ Some n → ((m : ℕ) → position k types ≡ Some m → position k (types ++ rest) ≡ Some m)
        → (if b then Some 0 else option_map suc (position k (types ++ rest))) ≡ Some n
    by true n e h = e
    by false n e h = later (position k types) n h e

pub position-longer : (k : Node) (types now : List Row) (n : ℕ) → Longer types now → position k types ≡ Some n → position k now ≡ Some n
position-longer k types now n l e = ap (position k) l.is ∙ position-still k types l.rest n e

-- where it wasn't it is the last one
position-last : (k : Node) (types : List Row) (r : Row) → r.type ≡ k → same_node k k ≡ true → position k types ≡ None → position k (types ++ r ∷ []) ≡ Some (length types)
position-last k [] r i s e = ap (λ b. if b then Some 0 else None) (ap (λ j. same_node j k) i ∙ s)
position-last k (q ∷ types) r i s e = by (same_node q.type k) e (λ z. position-last k types r i s z)
  where
    nothing : (o : Option ℕ) → option_map suc o ≡ None → o ≡ None
    nothing None e = refl
    nothing (Some m) e = absurd (cc)

    by : (b : Bool) → (if b then Some 0 else option_map suc (position k types)) ≡ None → (position k types ≡ None → position k (types ++ r ∷ []) ≡ Some (length types))
        → (if b then Some 0 else option_map suc (position k (types ++ r ∷ []))) ≡ Some (suc (length types))
    by true e h = absurd (cc)
    by false e h = ap (option_map suc) (h (nothing (position k types) e))

row-type : (types : List Row) (k : Node) → (row_of types k).type ≡ k
row-type types (node h ps) = refl

pub place-longer : (types : List Row) (k : Node) → Longer types (place types k).0
place-longer types k = by (position k types)
  where
    by : (o : Option ℕ) → Longer types (placed types k o).0
    by None = record { rest = row_of types k ∷ []; is = refl }
    by (Some n) = longer-itself types

pub place-there : (types : List Row) (k : Node) (n : ℕ) → position k types ≡ Some n → place types k ≡ (types, n)
place-there types k n e = ap (placed types k) e

-- types

module _ (s : ℕ → ℕ) where
  mutual
    pub type-longer : (types : List Row) (t : Typ) → Longer types (place_type s types t).0
    type-longer types (var v) = longer-itself types
    type-longer types (con h ts) = longer-then (types-longer types ts) (place-longer (place_all s types ts).0 (node h (place_all s types ts).1))

    pub types-longer : (types : List Row) (ts : Typs) → Longer types (place_all s types ts).0
    types-longer types none = longer-itself types
    types-longer types (more t ts) = longer-then (type-longer types t) (types-longer (place_type s types t).0 ts)

  mutual
    pub type-there : (types : List Row) (t : Typ) (n : ℕ) → IsPlaced s types t n → place_type s types t ≡ (types, n)
    type-there types (var v) n placed_var = refl
    type-there types (con h ts) n (placed_con {ns = ns} ps e) = ap (λ (r : List Row × List ℕ). place r.0 (node h r.1)) (types-there types ts ns ps) ∙ place-there types (node h ns) n e

    pub types-there : (types : List Row) (ts : Typs) (ns : List ℕ) → ArePlaced s types ts ns → place_all s types ts ≡ (types, ns)
    types-there types none [] placed_none = refl
    types-there types none (n ∷ ns) p = elim p [ ]
    types-there types (more t ts) [] p = elim p [ ]
    types-there types (more t ts) (n ∷ ns) (placed_more p ps) =
        ap (λ (r : List Row × ℕ). ((place_all s r.0 ts).0, r.1 ∷ (place_all s r.0 ts).1)) (type-there types t n p) ∙ ap (λ (r : List Row × List ℕ). (r.0, n ∷ r.1)) (types-there types ts ns ps)

  mutual
    pub placed-longer : (types now : List Row) (t : Typ) (n : ℕ) → Longer types now → IsPlaced s types t n → IsPlaced s now t n
    placed-longer types now (var v) n l placed_var = placed_var
    placed-longer types now (con h ts) n l (placed_con {ns = ns} ps e) = placed_con (all-longer types now ts ns l ps) (position-longer (node h ns) types now n l e)

    pub all-longer : (types now : List Row) (ts : Typs) (ns : List ℕ) → Longer types now → ArePlaced s types ts ns → ArePlaced s now ts ns
    all-longer types now none [] l placed_none = placed_none
    all-longer types now none (n ∷ ns) l p = elim p [ ]
    all-longer types now (more t ts) [] l p = elim p [ ]
    all-longer types now (more t ts) (n ∷ ns) l (placed_more p ps) = placed_more (placed-longer types now t n l p) (all-longer types now ts ns l ps)

  module _ (same : (k : Node) → same_node k k ≡ true) where
    place-found : (types : List Row) (k : Node) → position k (place types k).0 ≡ Some (place types k).1
    place-found types k = by (position k types) refl
      where
        by : (o : Option ℕ) → position k types ≡ o → position k (placed types k o).0 ≡ Some (placed types k o).1
        by None e = position-last k types (row_of types k) (row-type types k) (same k) e
        by (Some n) e = e

    mutual
      pub type-placed : (types : List Row) (t : Typ) → IsPlaced s (place_type s types t).0 t (place_type s types t).1
      type-placed types (var v) = placed_var
      type-placed types (con h ts) = placed_con
          (all-longer (place_all s types ts).0 (place (place_all s types ts).0 (node h (place_all s types ts).1)).0 ts (place_all s types ts).1 (place-longer (place_all s types ts).0 (node h (place_all s types ts).1)) (types-placed types ts))
          (place-found (place_all s types ts).0 (node h (place_all s types ts).1))

      pub types-placed : (types : List Row) (ts : Typs) → ArePlaced s (place_all s types ts).0 ts (place_all s types ts).1
      types-placed types none = placed_none
      types-placed types (more t ts) = placed_more
          (placed-longer (place_type s types t).0 (place_all s (place_type s types t).0 ts).0 t (place_type s types t).1 (types-longer (place_type s types t).0 ts) (type-placed types t))
          (types-placed (place_type s types t).0 ts)

-- what the table's own function gives

pub put-is : (old new : List Row) (h : Symbol) (ps : List ℕ) (b : Bool) (n : ℕ) → AreOnce old → b ≡ allowed (attribute h) (all_flagged old ps) → IsPut old (node h ps) b n new → place old (node h ps) ≡ (new, n)
put-is old new h ps b n once f p = by (position (node h ps) old) (position-right (node h ps) old)
  where
    by : (o : Option ℕ) → Position (node h ps) old o → placed old (node h ps) o ≡ (new, n)
    by None (Position.nowhere_yet z) = let a = p.added z in sym (ap₂ (λ types n. (types, n)) (a.0 ∙ ap (λ b. old ++ new_row (node h ps) b ∷ []) f) a.1)
    by (Some m) (Position.there_at e) = let k = p.known m e in sym (ap₂ (λ types n. (types, n)) k (once n m (node h ps) (subst (λ types. node_at types n ≡ Some (node h ps)) k p.held) e))

-- slots

pub slot-at : (ps : List ℕ) (v : ℕ) → v < length ps → slice_index_or ps v 0 ≡ nth_part ps v
slot-at [] v lt = absurd (omega arith)
slot-at (p ∷ ps) zero lt = refl
slot-at (p ∷ ps) (suc v) lt = slot-at ps v (omega arith)

pub no-slot : (ps : List ℕ) (v : ℕ) → length ps ≤ v → 0 ≡ nth_part ps v
no-slot [] v le = refl
no-slot (p ∷ ps) zero le = absurd (omega arith)
no-slot (p ∷ ps) (suc v) le = no-slot ps v (omega arith)

-- flags that are gone along

module _ (types : List Row) where
  abbrev pub FlagsLeft : List ℕ → ℕ → Type 0
  FlagsLeft ps n = all_flagged types ps ≡ all_flagged types (drop n ps)

  flags-at : (ps : List ℕ) (n p : ℕ) → n < length ps → p ≡ slice_index_or ps n p → all_flagged types (drop n ps) ≡ (admits types p && all_flagged types (drop (suc n) ps))
  flags-at [] n p lt e = absurd (omega arith)
  flags-at (q ∷ ps) zero p lt e = ap (λ p. admits types p && all_flagged types ps) (sym e)
  flags-at (q ∷ ps) (suc n) p lt e = flags-at ps n p (omega arith) e

  one-more : (n : ℕ) → suc n ≡ n + 1
  one-more n = omega arith

  none-left : (ps : List ℕ) (n : ℕ) → length ps ≤ n → true ≡ all_flagged types (drop n ps)
  none-left [] zero le = refl
  none-left [] (suc n) le = refl
  none-left (p ∷ ps) zero le = absurd (omega arith)
  none-left (p ∷ ps) (suc n) le = none-left ps n (omega arith)

  pub flags-next : (ps : List ℕ) (n p : ℕ) (b : Bool) → n < length ps → p ≡ slice_index_or ps n p → b ≡ admits types p → b ≡ true → FlagsLeft ps n → FlagsLeft ps (n + 1)
  flags-next ps n p b lt e i t w = w ∙ flags-at ps n p lt e ∙ ap (λ q. q && all_flagged types (drop (suc n) ps)) (sym i ∙ t) ∙ ap (λ k. all_flagged types (drop k ps)) (one-more n)

  pub flags-stop : (ps : List ℕ) (n p : ℕ) (b : Bool) → n < length ps → p ≡ slice_index_or ps n p → b ≡ admits types p → b ≡ false → FlagsLeft ps n → false ≡ all_flagged types ps
  flags-stop ps n p b lt e i f w = sym (w ∙ flags-at ps n p lt e ∙ ap (λ q. q && all_flagged types (drop (suc n) ps)) (sym i ∙ f))

  -- at the element that a loop reads
  any-default : (ns : List ℕ) (i d e : ℕ) → i < length ns → slice_index_or ns i d ≡ slice_index_or ns i e
  any-default [] i d e lt = absurd (omega arith)
  any-default (n ∷ ns) zero d e lt = refl
  any-default (n ∷ ns) (suc i) d e lt = any-default ns i d e (omega arith)

  pub flags-read : (ps : List ℕ) (n d : ℕ) (b : Bool) → n < length ps → b ≡ admits types (slice_index_or ps n d) → b ≡ true → FlagsLeft ps n → FlagsLeft ps (n + 1)
  flags-read ps n d b lt i t w = flags-next ps n (slice_index_or ps n d) b lt (any-default ps n d (slice_index_or ps n d) lt) i t w

  pub stop-read : (ps : List ℕ) (n d : ℕ) (b : Bool) → n < length ps → b ≡ admits types (slice_index_or ps n d) → b ≡ false → FlagsLeft ps n → false ≡ all_flagged types ps
  stop-read ps n d b lt i t w = flags-stop ps n (slice_index_or ps n d) b lt (any-default ps n d (slice_index_or ps n d) lt) i t w

  pub flags-all : (ps : List ℕ) (n : ℕ) → length ps ≤ n → FlagsLeft ps n → true ≡ all_flagged types ps
  flags-all ps n le w = none-left ps n le ∙ sym w

-- a head that was copied
pub put-copied : (old new : List Row) (h g : Symbol) (ps : List ℕ) (b : Bool) (n : ℕ) → AreOnce old → g ≡ h → b ≡ allowed (attribute h) (all_flagged old ps) → IsPut old (node g ps) b n new → place old (node h ps) ≡ (new, n)
put-copied old new h g ps b n once e f p = put-is old new h ps b n once f (subst (λ h. IsPut old (node h ps) b n new) e p)
