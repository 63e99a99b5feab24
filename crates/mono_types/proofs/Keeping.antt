-- The table as it is kept: each type once, found by its code.
use Rattle.std.proofs.Common.{◌≡◌, ◌≢◌, ◌↔◌, ℕ, zero, suc, ◌+◌, ◌<◌, ◌≤◌, Bool, true, false, List, [], ◌∷◌, ◌++◌, map, length, get_or, take, drop, Option, Some, None, nat_eq, slice_get, slice_set, slice_index_or, IsTrue, AllPairs, refl, sym, ap, ap₂, subst, ◌∙◌, arith}
use Rattle.std.specs.Map.{lookup}
use Rattle.std.proofs.lemmas.Option.{slice_get_within, get_or_from_slice_get}
use Rattle.ty_core.specs.TypesOf.{head_of}
use Rattle.ty_table.specs.Codes.{code_of, symbol_in, symbol_in-code}
use Rattle.ty_table.proofs.Keeping.{length-map, map-snoc, one-place}
use Rattle.ir_mono.specs.Types.{Row, Node, node, node_at, constructor_at}
use Rattle.ir_mono.specs.Growing.{with_constructor}
use Rattle.mono_types.specs.Codes.{node_code, node_in}
use Rattle.mono_types.specs.Rows.{row_of, rows_of, IsStored, AreOnce, new_row, IsPlaced, IsEntered}
use Rattle.mono_types.specs.declared.types.Kept.{Kept}

-- A code has one type

front : (ps l : List ℕ) → take (length ps) (ps ++ l) ≡ ps
front [] [] = refl
front [] (k ∷ l) = refl
front (p ∷ ps) l = ap (λ qs. p ∷ qs) (front ps l)

behind : (ps l : List ℕ) → drop (length ps) (ps ++ l) ≡ l
behind [] l = refl
behind (p ∷ ps) l = behind ps l

node_in-code : (k : Node) → node_in (node_code k) ≡ k
node_in-code (node h ps) = ap₂ (λ l qs. node (symbol_in l) qs) (behind ps (code_of h)) (front ps (code_of h)) ∙ ap (λ s. node s ps) (symbol_in-code h)

one-type : (k j : Node) → node_code k ≡ node_code j → k ≡ j
one-type k j e = sym (node_in-code k) ∙ ap node_in e ∙ node_in-code j

abbrev code_of_row : Row → List ℕ
code_of_row r = node_code r.type

some-is : {A : Type 0} {x y : A} → Some x ≡ Some y → x ≡ y
some-is e = cc

-- the code of a number's type, and back
coded-at : (types : List Row) (n : ℕ) (k : Node) → node_at types n ≡ Some k → slice_get (map code_of_row types) n ≡ Some (node_code k)
coded-at [] n k e = absurd (cc)
coded-at (r ∷ types) zero k e = ap (λ j. Some (node_code j)) (some-is e)
coded-at (r ∷ types) (suc n) k e = coded-at types n k e

uncoded-at : (types : List Row) (n : ℕ) (k : Node) → slice_get (map code_of_row types) n ≡ Some (node_code k) → node_at types n ≡ Some k
uncoded-at [] n k e = absurd (cc)
uncoded-at (r ∷ types) zero k e = ap Some (one-type r.type k (some-is e))
uncoded-at (r ∷ types) (suc n) k e = uncoded-at types n k e

stored-at : (types : List Row) (codes : List (List ℕ)) (n : ℕ) (k : Node) → IsStored types codes → node_at types n ≡ Some k → slice_get codes n ≡ Some (node_code k)
stored-at types codes n k s e = subst (λ c. slice_get c n ≡ Some (node_code k)) (sym s.coded) (coded-at types n k e)

pub stored-once : (types : List Row) (codes : List (List ℕ)) → IsStored types codes → AreOnce types
stored-once types codes s n m k p q =
    let a = stored-at types codes n k s p in
    let b = stored-at types codes m k s q in
    one-place [] codes n m s.once (slice_get_within codes n (node_code k) a) (slice_get_within codes m (node_code k) b)
    (get_or_from_slice_get codes n (node_code k) [] a ∙ sym (get_or_from_slice_get codes m (node_code k) [] b))

-- A type is placed

pub placed-found : (types : List Row) (codes : List (List ℕ)) (k : Node) (b : Bool) (n : ℕ) (c : List ℕ) → IsStored types codes → c ≡ node_code k → slice_get codes n ≡ Some c → IsPlaced types k b n types
placed-found types codes k b n c s e h =
    let held : node_at types n ≡ Some k = uncoded-at types n k (subst (λ l. slice_get l n ≡ Some (node_code k)) s.coded (h ∙ ap Some e)) in
    record { held = held; known = λ m _. refl; added = λ f. absurd (f n held) }

at-end : (types : List Row) (r : Row) → node_at (types ++ r ∷ []) (length types) ≡ Some r.type
at-end [] r = refl
at-end (q ∷ types) r = at-end types r

stays : (types : List Row) (r : Row) (n : ℕ) (k : Node) → node_at types n ≡ Some k → (node_at (types ++ r ∷ []) n ≡ Some k) × (n < length types)
stays [] r n k e = absurd (cc)
stays (q ∷ types) r zero k e = (e, omega arith)
stays (q ∷ types) r (suc n) k e = let p = stays types r n k e in (p.0, omega (arith, p.1))

pub record IsPlacedNew (old : List Row) (k : Node) (b : Bool) (n : ℕ) (new : List Row) (codes : List (List ℕ)) : Type 0 where
  pub stored : IsStored new codes
  pub placed : IsPlaced old k b n new

pub placed-new : (types new : List Row) (codes more : List (List ℕ)) (k : Node) (b : Bool) (n : ℕ) (c : List ℕ) → IsStored types codes → c ≡ node_code k → new ≡ types ++ new_row k b ∷ [] → more ≡ codes ++ c ∷ []
    → AllPairs (λ x y. x ≢ y) more → n ≡ length codes → IsPlacedNew types k b n new more
placed-new types new codes more k b n c s e i j once m =
    let coded : more ≡ map code_of_row new = j ∙ ap (λ l. l ++ c ∷ []) s.coded ∙ ap (λ x. map code_of_row types ++ x ∷ []) e ∙ sym (map-snoc code_of_row types (new_row k b)) ∙ ap (map code_of_row) (sym i) in
    let stored : IsStored new more = record { coded = coded; once = once } in
    let number : n ≡ length types = m ∙ ap length s.coded ∙ length-map code_of_row types in
    let held : node_at new n ≡ Some k = ap₂ node_at i number ∙ at-end types (new_row k b) in
    record {
      stored = stored;
      placed = record {
        held = held;
        known = λ q f.
            let p = stays types (new_row k b) q k f in
            let same : q ≡ n = stored-once new more stored q n k (ap (λ l. node_at l q) i ∙ p.0) held in
            absurd (omega (arith, p.1, same, number));
        added = λ _. (i, number);
      };
    }

-- A constructor is entered

abbrev pub put : Kept → List (ℕ × Option ℕ) → Kept
put r cs = record { head = r.head; parts = r.parts; constructors = cs; equality = r.equality }

codes-stay : (rows : List Kept) (n : ℕ) (row : Kept) (cs : List (ℕ × Option ℕ)) → n < length rows → row ≡ slice_index_or rows n row → map code_of_row (rows_of (slice_set rows n (put row cs))) ≡ map code_of_row (rows_of rows)
codes-stay [] n row cs lt e = absurd (omega arith)
codes-stay (r ∷ rows) zero row cs lt e = ap (λ (q : Kept). node_code (row_of q).type ∷ map code_of_row (rows_of rows)) e
codes-stay (r ∷ rows) (suc n) row cs lt e = ap (λ l. node_code (row_of r).type ∷ l) (codes-stay rows n row cs (omega arith) e)

pub stored-put : (rows : List Kept) (codes : List (List ℕ)) (n : ℕ) (row : Kept) (cs : List (ℕ × Option ℕ)) → n < length rows → row ≡ slice_index_or rows n row → IsStored (rows_of rows) codes
    → IsStored (rows_of (slice_set rows n (put row cs))) codes
stored-put rows codes n row cs lt e s = record { coded = s.coded ∙ sym (codes-stay rows n row cs lt e); once = s.once }

-- what the row says
there : (rows : List Kept) (n : ℕ) (row : Kept) → n < length rows → row ≡ slice_index_or rows n row → slice_get (rows_of rows) n ≡ Some (row_of row)
there [] n row lt e = absurd (omega arith)
there (r ∷ rows) zero row lt e = ap (λ (q : Kept). Some (row_of q)) (sym e)
there (r ∷ rows) (suc n) row lt e = there rows n row (omega arith) e

set-same : (rows : List Kept) (n : ℕ) (row : Kept) → n < length rows → row ≡ slice_index_or rows n row → slice_set rows n row ≡ rows
set-same [] n row lt e = absurd (omega arith)
set-same (r ∷ rows) zero row lt e = ap (λ (q : Kept). q ∷ rows) e
set-same (r ∷ rows) (suc n) row lt e = ap (λ l. r ∷ l) (set-same rows n row (omega arith) e)

set-rows : (rows : List Kept) (n : ℕ) (row : Kept) → rows_of (slice_set rows n row) ≡ slice_set (rows_of rows) n (row_of row)
set-rows [] n row = refl
set-rows (r ∷ rows) zero row = refl
set-rows (r ∷ rows) (suc n) row = ap (λ l. row_of r ∷ l) (set-rows rows n row)

found-in : (types : List Row) (n c : ℕ) (r : Row) → slice_get types n ≡ Some r → constructor_at types n c ≡ lookup (nat_eq c) r.constructors
found-in [] n c r e = absurd (cc)
found-in (q ∷ types) zero c r e = ap (λ (q : Row). lookup (nat_eq c) q.constructors) (some-is e)
found-in (q ∷ types) (suc n) c r e = found-in types n c r e

pub entered : (rows : List Kept) (n c : ℕ) (a : Option ℕ) (row : Kept) (cs : List (ℕ × Option ℕ)) (b : Bool) → n < length rows → row ≡ slice_index_or rows n row
    → IsTrue b ↔ (lookup (nat_eq c) row.constructors ≡ None) → (b ≡ true → cs ≡ (c, a) ∷ row.constructors) → (b ≡ false → cs ≡ row.constructors)
    → IsEntered (rows_of rows) n c a (rows_of (slice_set rows n (put row cs)))
entered rows n c a row cs b lt e w pushed kept = record {
  known = λ d f. ap rows_of (ap (λ l. slice_set rows n (put row l)) (kept (known-before b d (sym (found-in (rows_of rows) n c (row_of row) here) ∙ f) w)) ∙ set-same rows n row lt e);
  added = λ r f none. set-rows rows n (put row cs) ∙ ap₂ (λ l (q : Row). slice_set (rows_of rows) n (record { type = q.type; constructors = l; equality = q.equality }))
      (pushed (w.1 (sym (found-in (rows_of rows) n c (row_of row) here) ∙ none)) ∙ ap (λ (q : Row). (c, a) ∷ q.constructors) (some-is (sym here ∙ f))) (some-is (sym here ∙ f));
}
  where
    here : slice_get (rows_of rows) n ≡ Some (row_of row)
    here = there rows n row lt e

    known-before : (b : Bool) (d : Option ℕ) → lookup (nat_eq c) row.constructors ≡ Some d → IsTrue b ↔ (lookup (nat_eq c) row.constructors ≡ None) → b ≡ false
    known-before false d f w = refl
    known-before true d f w = absurd (let g : lookup (nat_eq c) row.constructors ≡ None = w.0 refl in cc)
