-- Numbers that are put into a set one after the other.
use Rattle.std.proofs.Common.{◌≡◌, ◌↔◌, ℕ, zero, suc, ◌+◌, ◌<◌, ◌≤◌, Bool, true, false, not, ◌||◌, List, [], ◌∷◌, ◌++◌, take, drop, length, slice_index_or, nat_eq, IsTrue, if◌then◌else◌, refl, sym, ap, ◌∙◌, subst, arith}
use Rattle.std.proofs.lemmas.Bool.{eqb-true, eq-eqb, false≢true}
use Rattle.std.proofs.lemmas.List.{take-append-drop}
use Rattle.std.specs.List.{list_any}
use Rattle.indexmap.specs.IndexSet.{insert_key}
use Rattle.ir_plain.specs.Once.{hit}
use Rattle.ir_poly.specs.ProgOnce.{list_times}
use Rattle.prog_tree.specs.TreeOf.{Reading}
use Rattle.prog_binders.specs.Adding.{Adds}

count-append : (k : ℕ) (xs ys : List ℕ) → list_times (hit k) (xs ++ ys) ≡ list_times (hit k) xs + list_times (hit k) ys
count-append k [] ys = omega arith
count-append k (x ∷ xs) ys = let r = count-append k xs ys in omega arith

hit-self : (k : ℕ) → hit k k ≡ 1
hit-self k = ap (λ b. if b then 1 else 0) (eq-eqb k k refl)

hit-at-most : (k x : ℕ) → hit k x ≤ 1
hit-at-most k x = by (nat_eq k x)
  where
    by : (b : Bool) → (if b then 1 else 0) ≤ 1
    by true = omega arith
    by false = omega arith

there : (ks : List ℕ) (k : ℕ) → list_any (nat_eq k) ks ≡ true → 1 ≤ list_times (hit k) ks
there [] k h = absurd (false≢true h)
there (x ∷ ks) k h = by (nat_eq k x) h (there ks k)
  where
    by : (b : Bool) → (b || list_any (nat_eq k) ks) ≡ true → (list_any (nat_eq k) ks ≡ true → 1 ≤ list_times (hit k) ks) → 1 ≤ (if b then 1 else 0) + list_times (hit k) ks
    by true h rest = omega arith
    by false h rest = let r = rest h in omega arith

absent : (ks : List ℕ) (k : ℕ) → list_any (nat_eq k) ks ≡ false → list_times (hit k) ks ≡ 0
absent [] k h = refl
absent (x ∷ ks) k h = by (nat_eq k x) h (absent ks k)
  where
    by : (b : Bool) → (b || list_any (nat_eq k) ks) ≡ false → (list_any (nat_eq k) ks ≡ false → list_times (hit k) ks ≡ 0) → (if b then 1 else 0) + list_times (hit k) ks ≡ 0
    by true h rest = absurd (false≢true (sym h))
    by false h rest = let r = rest h in omega arith

take-more : (xs : List ℕ) (i x : ℕ) → i < length xs → x ≡ slice_index_or xs i x → take (i + 1) xs ≡ take i xs ++ x ∷ []
take-more xs i x lt e = ap (λ n. take n xs) one ∙ go xs i lt e
  where
    one : i + 1 ≡ suc i
    one = omega arith

    go : (xs : List ℕ) (i : ℕ) → i < length xs → x ≡ slice_index_or xs i x → take (suc i) xs ≡ take i xs ++ x ∷ []
    go [] i lt e = absurd (omega arith)
    go (y ∷ xs) zero lt e = ap (λ z. z ∷ []) (sym e)
    go (y ∷ xs) (suc i) lt e = ap (λ l. y ∷ l) (go xs i (omega arith) e)

-- the first i are in the set, each once
pub record Counted (xs ks : List ℕ) (i : ℕ) : Type 0 where
  pub held : ks ≡ take i xs
  pub once : (k : ℕ) → list_times (hit k) (take i xs) ≤ 1

pub one-counted : (xs ks new : List ℕ) (i x : ℕ) (b : Bool) → i < length xs → x ≡ slice_index_or xs i x → Counted xs ks i → b ≡ not (list_any (nat_eq x) ks) → new ≡ insert_key nat_eq ks x → b ≡ true → Counted xs new (i + 1)
one-counted xs ks new i x b lt e c p q t = go (list_any (nat_eq x) ks) refl
  where
    go : (a : Bool) → list_any (nat_eq x) ks ≡ a → Counted xs new (i + 1)
    go true h = absurd (false≢true (sym (p ∙ ap not h) ∙ t))
    go false h = record {
      held = q ∙ ap (λ a. if a then ks else ks ++ x ∷ []) h ∙ ap (λ l. l ++ x ∷ []) c.held ∙ sym (take-more xs i x lt e);
      once = λ k. subst (λ l. list_times (hit k) l ≤ 1) (sym (take-more xs i x lt e)) (at k (c.once k));
    }
      where
        at : (k : ℕ) → list_times (hit k) (take i xs) ≤ 1 → list_times (hit k) (take i xs ++ x ∷ []) ≤ 1
        at k le = by (nat_eq k x) refl
          where
            by : (a : Bool) → nat_eq k x ≡ a → list_times (hit k) (take i xs ++ x ∷ []) ≤ 1
            by true s =
                let z : list_times (hit k) (take i xs) ≡ 0 = subst (λ j. list_times (hit j) (take i xs) ≡ 0) (sym (eqb-true k x s)) (ap (list_times (hit x)) (sym c.held) ∙ absent ks x h) in
                let r = count-append k (take i xs) (x ∷ []) in let m = hit-at-most k x in omega arith
            by false s = let z : hit k x ≡ 0 = ap (λ b. if b then 1 else 0) s in let r = count-append k (take i xs) (x ∷ []) in omega arith

pub twice-counted : (xs ks new : List ℕ) (i x : ℕ) (b : Bool) → i < length xs → x ≡ slice_index_or xs i x → Counted xs ks i → b ≡ not (list_any (nat_eq x) ks) → b ≡ false → ((k : ℕ) → list_times (hit k) xs ≤ 1) → ⊥
twice-counted xs ks new i x b lt e c p t once = go (list_any (nat_eq x) ks) refl
  where
    go : (a : Bool) → list_any (nat_eq x) ks ≡ a → ⊥
    go false h = false≢true (sym t ∙ p ∙ ap not h)
    go true h =
        let m : 1 ≤ list_times (hit x) (take i xs) = subst (λ l. 1 ≤ list_times (hit x) l) c.held (there ks x h) in
        let r = count-append x (take i xs) (x ∷ []) in
        let s = hit-self x in
        let u = count-append x (take (i + 1) xs) (drop (i + 1) xs) in
        let v : list_times (hit x) xs ≡ list_times (hit x) (take (i + 1) xs ++ drop (i + 1) xs) = ap (list_times (hit x)) (sym (take-append-drop (i + 1) xs)) in
        let w : list_times (hit x) (take (i + 1) xs) ≡ list_times (hit x) (take i xs ++ x ∷ []) = ap (list_times (hit x)) (take-more xs i x lt e) in
        let y = once x in omega arith

any-default : (xs : List ℕ) (i d e : ℕ) → i < length xs → slice_index_or xs i d ≡ slice_index_or xs i e
any-default [] i d e lt = absurd (omega arith)
any-default (x ∷ xs) zero d e lt = refl
any-default (x ∷ xs) (suc i) d e lt = any-default xs i d e (omega arith)

pub one-more : (xs ks new : List ℕ) (i d : ℕ) (b : Bool) → i < length xs → Counted xs ks i → b ≡ not (list_any (nat_eq (slice_index_or xs i d)) ks) → new ≡ insert_key nat_eq ks (slice_index_or xs i d) → b ≡ true
    → Counted xs new (i + 1)
one-more xs ks new i d b lt c p q t = one-counted xs ks new i (slice_index_or xs i d) b lt (any-default xs i d _ lt) c p q t

pub one-twice : (xs ks : List ℕ) (i d : ℕ) (b : Bool) → i < length xs → Counted xs ks i → b ≡ not (list_any (nat_eq (slice_index_or xs i d)) ks) → b ≡ false → IsTrue false ↔ ((k : ℕ) → list_times (hit k) xs ≤ 1)
one-twice xs ks i d b lt c p t = ((λ f. absurd (false≢true f)), (λ once. absurd (twice-counted xs ks ks i (slice_index_or xs i d) b lt (any-default xs i d _ lt) c p t once)))

-- what was found binds as often as the sum says
pub once-by : (f : Reading → (ℕ → ℕ) → ℕ) (R : Reading) (none found shown : List ℕ) (b : Bool) → none ≡ [] → Adds none found f → shown ≡ found → IsTrue b ↔ ((k : ℕ) → list_times (hit k) shown ≤ 1)
    → IsTrue b ↔ ((k : ℕ) → f R (hit k) ≤ 1)
once-by f R none found shown b n a d i = ((λ y k. at k (i.0 y k)), (λ g. i.1 (λ k. back k (g k))))
  where
    at : (k : ℕ) → list_times (hit k) shown ≤ 1 → f R (hit k) ≤ 1
    at k w = let s = a R (hit k) in let e = ap (list_times (hit k)) d in let z : list_times (hit k) none ≡ 0 = ap (list_times (hit k)) n in omega (arith, w, s, e, z)

    back : (k : ℕ) → f R (hit k) ≤ 1 → list_times (hit k) shown ≤ 1
    back k w = let s = a R (hit k) in let e = ap (list_times (hit k)) d in let z : list_times (hit k) none ≡ 0 = ap (list_times (hit k)) n in omega (arith, w, s, e, z)
