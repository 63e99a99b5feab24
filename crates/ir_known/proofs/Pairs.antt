-- Types side by side.
use Rattle.std.proofs.Common.{◌≡◌, ◌≢◌, ◌↔◌, ℕ, zero, suc, ◌+◌, ◌<◌, Bool, true, false, not, ◌&&◌, ◌||◌, List, [], ◌∷◌, ◌++◌, take, zip, length, slice_index_or, IsTrue, nat_eq, if◌then◌else◌, refl, sym, ap, ap₂, ◌∙◌, subst, arith}
use Rattle.std.proofs.lemmas.Bool.{false≢true, eqb-true}
use Rattle.std.proofs.lemmas.List.{append-nil}
use Rattle.std.specs.List.{list_any}
use Rattle.indexmap.specs.IndexSet.{insert_key}
use mathlib.Core.Logic.{inl, inr}
use Rattle.ir_tables.specs.of_ty_core.Types.{Symbol, Typ, var, con, Typs, none, more, nodes, all_nodes}
use Rattle.ir_tables.specs.of_ty_core.Statics.{replace, replace_all}
use Rattle.ir_tables.specs.of_ty_table.TypeAt.{type_at, types_at, top, tops}
use Rattle.ir_known.specs.Asked.{All, total}
use Rattle.ir_known.specs.Images.{Pair, IsImage, OpensImage}
use Rattle.ir_known.proofs.Walks.{Has, Walked, walk-passes, walk-fails, walk-ends}
use Rattle.ir_known.proofs.Opening.{nodes-positive}

abbrev pub same-pair : Pair → Pair → Bool
same-pair a b = nat_eq a.0 b.0 && nat_eq a.1 b.1

parts-are : {h k : Symbol} {ts us : Typs} → con h ts ≡ con k us → ts ≡ us
parts-are e = cc

first-is : {t u : Typ} {ts us : Typs} → more t ts ≡ more u us → t ≡ u
first-is e = cc

rest-is : {t u : Typ} {ts us : Typs} → more t ts ≡ more u us → ts ≡ us
rest-is e = cc

-- a type without variables
mutual
  closed : (f : ℕ → Typ) (t : Typ) → top t ≡ 0 → replace f t ≡ t
  closed f (var v) e = absurd (omega arith)
  closed f (con h ts) e = ap (con h) (all-closed f ts e)

  all-closed : (f : ℕ → Typ) (ts : Typs) → tops ts ≡ 0 → replace_all f ts ≡ ts
  all-closed f none e = refl
  all-closed f (more t ts) e = ap₂ more (closed f t (omega arith)) (all-closed f ts (omega arith))

module _ (ts : List Typ) (f : ℕ → Typ) where
  together : (ks ls : List ℕ) → length ks ≡ length ls → All (IsImage ts f) (zip ks ls) → types_at ts ls ≡ replace_all f (types_at ts ks)
  together [] [] n a = refl
  together [] (l ∷ ls) n a = absurd (omega arith)
  together (k ∷ ks) [] n a = absurd (omega arith)
  together (k ∷ ks) (l ∷ ls) n (p, a) = ap (λ t. more t (types_at ts ls)) p ∙ ap (more (replace f (type_at ts k))) (together ks ls (omega arith) a)

  apart : (ks ls : List ℕ) → types_at ts ls ≡ replace_all f (types_at ts ks) → All (IsImage ts f) (zip ks ls)
  apart [] ls e = tt
  apart (k ∷ ks) [] e = tt
  apart (k ∷ ks) (l ∷ ls) e = (first-is e, apart ks ls (rest-is e))

  as-long : (ks ls : List ℕ) → types_at ts ls ≡ replace_all f (types_at ts ks) → length ks ≡ length ls
  as-long [] [] e = refl
  as-long [] (l ∷ ls) e = absurd (cc)
  as-long (k ∷ ks) [] e = absurd (cc)
  as-long (k ∷ ks) (l ∷ ls) e = ap (λ n. suc n) (as-long ks ls (rest-is e))

  pairs-nodes : (ks ls : List ℕ) → length ks ≡ length ls → total (λ p. nodes (type_at ts p.0)) (zip ks ls) ≡ all_nodes (types_at ts ks)
  pairs-nodes [] ls n = refl
  pairs-nodes (k ∷ ks) [] n = absurd (omega arith)
  pairs-nodes (k ∷ ks) (l ∷ ls) n = ap (λ m. nodes (type_at ts k) + m) (pairs-nodes ks ls (omega arith))

  pub pair-none : (p : Pair) (old : List Pair) → IsImage ts f p → OpensImage ts f p old old
  pair-none p old i = record { parts = []; is = sym (append-nil old); whole = λ a. i; back = λ a. tt; smaller = nodes-positive (type_at ts p.0) }

  pub pair-closed : (p : Pair) (b : Bool) (old : List Pair) → top (type_at ts p.0) ≡ 0 → IsTrue b ↔ (type_at ts p.1 ≡ type_at ts p.0) → b ≡ true → OpensImage ts f p old old
  pair-closed p b old e w y = pair-none p old (w.0 y ∙ sym (closed f (type_at ts p.0) e))

  pub closed-apart : (p : Pair) (b : Bool) → top (type_at ts p.0) ≡ 0 → IsTrue b ↔ (type_at ts p.1 ≡ type_at ts p.0) → b ≡ false → IsImage ts f p → ⊥
  closed-apart p b e w n r = false≢true (sym n ∙ w.1 (r ∙ closed f (type_at ts p.0) e))

  pub pair-variable : (p : Pair) (v : ℕ) (old : List Pair) → type_at ts p.0 ≡ var v → type_at ts p.1 ≡ f v → OpensImage ts f p old old
  pair-variable p v old e i = pair-none p old (i ∙ sym (ap (replace f) e))

  pub no-variable : (p : Pair) (v : ℕ) (h : Symbol) (us : Typs) → type_at ts p.0 ≡ con h us → type_at ts p.1 ≡ var v → IsImage ts f p → ⊥
  no-variable p v h us e i r = absurd (let q : var v ≡ con h (replace_all f us) = sym i ∙ r ∙ ap (replace f) e in cc)

  pub other-length : (p : Pair) (h k : Symbol) (ks ls : List ℕ) → type_at ts p.0 ≡ con h (types_at ts ks) → type_at ts p.1 ≡ con k (types_at ts ls) → length ks ≢ length ls → IsImage ts f p → ⊥
  other-length p h k ks ls e i n r = n (as-long ks ls (parts-are (sym i ∙ r ∙ ap (replace f) e)))

  pub pair-parts : (p : Pair) (h k : Symbol) (ks ls : List ℕ) (old new : List Pair) → type_at ts p.0 ≡ con h (types_at ts ks) → type_at ts p.1 ≡ con k (types_at ts ls) → h ≡ k → length ks ≡ length ls → new ≡ old ++ zip ks ls
      → OpensImage ts f p old new
  pair-parts p h k ks ls old new e i s n q = record {
    parts = zip ks ls;
    is = q;
    whole = λ a. i ∙ ap (λ g. con g (types_at ts ls)) (sym s) ∙ ap (con h) (together ks ls n a) ∙ sym (ap (replace f) e);
    back = λ r. apart ks ls (parts-are (sym i ∙ r ∙ ap (replace f) e));
    smaller = let m = ap nodes e in let l = pairs-nodes ks ls n in omega arith;
  }

  pub pairs-fail : (body t : ℕ) (done old rest : List Pair) (k : Pair) → old ≡ rest ++ k ∷ [] → Walked (IsImage ts f) (λ p. nodes (type_at ts p.0)) (body, t) done old → (IsImage ts f k → ⊥) → IsTrue false ↔ (type_at ts t ≡ replace f (type_at ts body))
  pairs-fail body t done old rest k e w n = ((λ y. absurd (false≢true y)), (λ p. absurd (walk-fails (IsImage ts f) (λ p. nodes (type_at ts p.0)) (body, t) done old rest k e w n p)))

  pub pairs-end : (body t : ℕ) (done l : List Pair) → length l ≡ 0 → Walked (IsImage ts f) (λ p. nodes (type_at ts p.0)) (body, t) done l → IsTrue true ↔ (type_at ts t ≡ replace f (type_at ts body))
  pairs-end body t done l e w = ((λ _. walk-ends (IsImage ts f) (λ p. nodes (type_at ts p.0)) (body, t) done l (empty-list l e) w), (λ _. refl))
    where
      empty-list : (l : List Pair) → length l ≡ 0 → l ≡ []
      empty-list [] e = refl
      empty-list (x ∷ l) e = absurd (omega arith)

pub zip-more : (ks ls : List ℕ) (i k l : ℕ) (old now new : List Pair) → i < length ks → length ks ≡ length ls → k ≡ slice_index_or ks i k → l ≡ slice_index_or ls i l → now ≡ old ++ zip (take i ks) (take i ls) → new ≡ now ++ (k, l) ∷ []
    → new ≡ old ++ zip (take (i + 1) ks) (take (i + 1) ls)
zip-more ks ls i k l old now new lt n p q e d = d ∙ ap (λ m. m ++ (k, l) ∷ []) e ∙ assoc old (zip (take i ks) (take i ls)) ∙ ap (λ m. old ++ m) (sym (go ks ls i lt n p q) ∙ ap (λ j. zip (take j ks) (take j ls)) one)
  where
    one : suc i ≡ i + 1
    one = omega arith

    assoc : (a b : List Pair) → (a ++ b) ++ (k, l) ∷ [] ≡ a ++ (b ++ (k, l) ∷ [])
    assoc [] b = refl
    assoc (x ∷ a) b = ap (λ m. x ∷ m) (assoc a b)

    go : (ks ls : List ℕ) (i : ℕ) → i < length ks → length ks ≡ length ls → k ≡ slice_index_or ks i k → l ≡ slice_index_or ls i l → zip (take (suc i) ks) (take (suc i) ls) ≡ zip (take i ks) (take i ls) ++ (k, l) ∷ []
    go [] ls i lt n p q = absurd (omega arith)
    go (x ∷ ks) [] i lt n p q = absurd (omega arith)
    go (x ∷ ks) (y ∷ ls) zero lt n p q = ap (λ z. (z, y) ∷ []) (sym p) ∙ ap (λ z. (k, z) ∷ []) (sym q)
    go (x ∷ ks) (y ∷ ls) (suc i) lt n p q = ap (λ m. (x, y) ∷ m) (go ks ls i (omega arith) (omega arith) p q)

pair-is : (a b : Pair) → same-pair a b ≡ true → a ≡ b
pair-is (x, y) (z, w) e = by (nat_eq x z) refl e
  where
    at : ℕ → ℕ → Pair
    at i j = (i, j)

    by : (b : Bool) → nat_eq x z ≡ b → (b && nat_eq y w) ≡ true → at x y ≡ at z w
    by true p q = ap (λ i. at i y) (eqb-true x z p) ∙ ap (λ j. at z j) (eqb-true y w q)
    by false p q = absurd (false≢true q)

pub pair-new : (ks ks' : List Pair) (k : Pair) (b : Bool) → b ≡ not (list_any (same-pair k) ks) → ks' ≡ insert_key same-pair ks k → b ≡ true → ks' ≡ ks ++ k ∷ []
pair-new ks ks' k b p q e = go (list_any (same-pair k) ks) refl
  where
    go : (c : Bool) → list_any (same-pair k) ks ≡ c → ks' ≡ ks ++ k ∷ []
    go true i = absurd (false≢true (sym (p ∙ ap not i) ∙ e))
    go false i = q ∙ ap (λ c. if c then ks else ks ++ k ∷ []) i

pair-held : (ks : List Pair) (k : Pair) → list_any (same-pair k) ks ≡ true → Has ks k
pair-held [] k h = absurd (false≢true h)
pair-held (x ∷ ks) k h = go (same-pair k x) refl (pair-held ks k)
  where
    go : (c : Bool) → same-pair k x ≡ c → (list_any (same-pair k) ks ≡ true → Has ks k) → Has (x ∷ ks) k
    go true i r = inl (pair-is k x i)
    go false i r = inr (r (sym (ap (λ c. c || list_any (same-pair k) ks) i) ∙ h))

pub pair-old : (P : Pair → Type 0) (size : Pair → ℕ) (t : Pair) (ks ks' old rest : List Pair) (k : Pair) (b : Bool) → old ≡ rest ++ k ∷ [] → Walked P size t ks old → b ≡ not (list_any (same-pair k) ks) → ks' ≡ insert_key same-pair ks k → b ≡ false
    → Walked P size t ks' rest
pair-old P size t ks ks' old rest k b e w p q f = go (list_any (same-pair k) ks) refl
  where
    go : (c : Bool) → list_any (same-pair k) ks ≡ c → Walked P size t ks' rest
    go true i = subst (λ l. Walked P size t l rest) (sym (q ∙ ap (λ c. if c then ks else ks ++ k ∷ []) i)) (walk-passes P size t ks old rest k e w (pair-held ks k i))
    go false i = absurd (false≢true (sym f ∙ p ∙ ap not i))

pub zip-all : (ks ls : List ℕ) (i d e : ℕ) (old now new : List Pair) → i < length ks → length ks ≡ length ls → now ≡ old ++ zip (take i ks) (take i ls) → new ≡ now ++ (slice_index_or ks i d, slice_index_or ls i e) ∷ []
    → new ≡ old ++ zip (take (i + 1) ks) (take (i + 1) ls)
zip-all ks ls i d e old now new lt n p q = zip-more ks ls i (slice_index_or ks i d) (slice_index_or ls i e) old now new lt n (same ks i d _ lt) (same ls i e _ (omega arith)) p q
  where
    same : (xs : List ℕ) (i d e : ℕ) → i < length xs → slice_index_or xs i d ≡ slice_index_or xs i e
    same [] i d e lt = absurd (omega arith)
    same (x ∷ xs) zero d e lt = refl
    same (x ∷ xs) (suc i) d e lt = same xs i d e (omega arith)
