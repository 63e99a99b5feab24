-- What is known of a table stays so while it grows.
use Rattle.std.proofs.Common.{◌≡◌, ℕ, zero, suc, List, [], ◌∷◌, ◌++◌, Option, Some, None, Result, Ok, Err, IfOk, OnOk, length, ◌<◌, nat_eq, arith, option_map, slice_get, slice_set, option_and_then, if◌then◌else◌, refl, sym, ap, ◌∙◌, subst}
use Rattle.ty_core.specs.Types.{Typ, var, con, Typs, none, more}
use Rattle.ty_table.specs.TypeAt.{type_at}
use Rattle.std.specs.Map.{lookup}
use Rattle.ir_poly.specs.Types.{Constructor}
use Rattle.ir_mono.specs.Types.{Row, Node, node, constructor_at}
use Rattle.ir_mono.specs.Growing.{with_constructor}
use Rattle.monomorphise.specs.Simple.{nth_part}
use Rattle.monomorphise.specs.Table.{same_node, position, place_type, with_new, unless_listed, enter_at}
use Rattle.monomorphise.proofs.Placed.{Longer}
use Rattle.mono_place.specs.Placing.{IsPlaced, placed_var, placed_con, ArePlaced, placed_none, placed_more}
use Rattle.mono_place.proofs.Placed.{type-longer, placed-longer}
use Rattle.mono_types.specs.Rows.{IsEntered}
use Rattle.mono_enter.specs.Entering.{Knows, Keeps, with_found_row}
use Rattle.mono_enter.specs.declared.constructors.Found.{Found}

get-front : (types rest : List Row) (n : ℕ) (r : Row) → slice_get types n ≡ Some r → slice_get (types ++ rest) n ≡ Some r
get-front [] rest n r e = absurd (cc)
get-front (q ∷ types) rest zero r e = e
get-front (q ∷ types) rest (suc n) r e = get-front types rest n r e

pub longer-keeps : (old new : List Row) → Longer old new → Keeps old new
longer-keeps old new l = record {
  known = λ closed known h k n e. placed-longer (nth_part []) old new (type_at closed k) n l (h k n e);
  rows = λ n r e. ap (λ t. slice_get t n) l.is ∙ get-front old l.rest n r e;
}

pub placed-keeps : (s : ℕ → ℕ) (old new : List Row) (t : Typ) (n : ℕ) → place_type s old t ≡ (new, n) → Keeps old new
placed-keeps s old new t n e = subst (Keeps old) (ap (λ (q : List Row × ℕ). q.0) e) (longer-keeps old (place_type s old t).0 (type-longer s old t))

-- a constructor more changes no type

position-set : (k : Node) (types : List Row) (n : ℕ) (r : Row) (c : ℕ) (a : Option ℕ) → slice_get types n ≡ Some r → position k (slice_set types n (with_constructor r c a)) ≡ position k types
position-set k [] n r c a e = absurd (cc)
position-set k (q ∷ types) zero r c a e =
    let same : q ≡ r = cc in ap (λ (q : Row). if same_node q.type k then Some 0 else option_map suc (position k types)) (sym same)
position-set k (q ∷ types) (suc n) r c a e = ap (λ o. if same_node q.type k then Some 0 else option_map suc o) (position-set k types n r c a e)

module _ (s : ℕ → ℕ) (types now : List Row) (same : (k : Node) → position k now ≡ position k types) where
  mutual
    placed-same : (t : Typ) (n : ℕ) → IsPlaced s types t n → IsPlaced s now t n
    placed-same (var v) n placed_var = placed_var
    placed-same (con h ts) n (placed_con {ns = ns} ps e) = placed_con (all-same ts ns ps) (same (node h ns) ∙ e)

    all-same : (ts : Typs) (ns : List ℕ) → ArePlaced s types ts ns → ArePlaced s now ts ns
    all-same none [] placed_none = placed_none
    all-same none (n ∷ ns) p = elim p [ ]
    all-same (more t ts) [] p = elim p [ ]
    all-same (more t ts) (n ∷ ns) (placed_more p ps) = placed_more (placed-same t n p) (all-same ts ns ps)

pub set-known : (types now : List Row) (n : ℕ) (r : Row) (c : ℕ) (a : Option ℕ) → slice_get types n ≡ Some r → now ≡ slice_set types n (with_constructor r c a) → (closed : List Typ) (known : ℕ → Option ℕ) → Knows closed known types
    → Knows closed known now
set-known types now n r c a s e closed known h = subst (Knows closed known) (sym e)
    (λ k m i. placed-same (nth_part []) types (slice_set types n (with_constructor r c a)) (λ j. position-set j types n r c a s) (type_at closed k) m (h k m i))

there : (types : List Row) (n : ℕ) → n < length types → (r : Row) × (slice_get types n ≡ Some r)
there [] n lt = absurd (omega (arith, lt))
there (r ∷ types) zero lt = (r, refl)
there (r ∷ types) (suc n) lt = there types n (omega (arith, lt))

pub entered-known : (old new : List Row) (n c : ℕ) (a : Option ℕ) → n < length old → IsEntered old n c a new → (closed : List Typ) (known : ℕ → Option ℕ) → Knows closed known old → Knows closed known new
entered-known old new n c a lt e closed known h = by (constructor_at old n c) refl (there old n lt)
  where
    by : (o : Option (Option ℕ)) → constructor_at old n c ≡ o → (r : Row) × (slice_get old n ≡ Some r) → Knows closed known new
    by None k r = set-known old new n r.0 c a r.1 (e.added r.0 r.1 k) closed known h
    by (Some b) k r = subst (Knows closed known) (sym (e.known b k)) h

listed-at : (types : List Row) (n c : ℕ) (r : Row) → slice_get types n ≡ Some r → constructor_at types n c ≡ None → lookup (nat_eq c) r.constructors ≡ None
listed-at types n c r s k = sym (ap (option_and_then (λ (r : Row). lookup (nat_eq c) r.constructors)) s) ∙ k

-- the table with a constructor that is found
pub found-entered : (constructors : List Constructor) (ts : List Typ) (types new : List Row) (q : List Row × ℕ) (n c : ℕ) (f : Found) → q ≡ (types, n) → n < length types → constructor_at types n c ≡ None
    → ((r : Row) → slice_get types n ≡ Some r → with_new constructors types n r c r.type ≡ with_found_row ts types n r c (Some f))
    → ((r : Row) → slice_get types n ≡ Some r → constructor_at types n c ≡ None → with_found_row ts types n r c (Some f) ≡ new) → enter_at constructors q.0 q.1 c (slice_get q.0 q.1) ≡ new
found-entered constructors ts types new q n c f e lt k g h =
    let r = there types n lt in
    ap (λ (q : List Row × ℕ). enter_at constructors q.0 q.1 c (slice_get q.0 q.1)) e ∙ ap (enter_at constructors types n c) r.1
    ∙ ap (unless_listed constructors types n r.0 c) (listed-at types n c r.0 r.1 k) ∙ g r.0 r.1 ∙ h r.0 r.1 k

module _ {A E : Type 0} where
  pub if-ok : (P Q : A → Type 0) (r : Result A E) → ((a : A) → P a → Q a) → IfOk r P → IfOk r Q
  if-ok P Q (Ok a) f h = f a h
  if-ok P Q (Err x) f h = tt

  pub on-ok : (P : Type 0) (Q : A → Type 0) (r : Result A E) → (P → (a : A) → Q a) → OnOk r P → IfOk r Q
  on-ok P Q (Ok a) f h = f h a
  on-ok P Q (Err x) f h = tt
