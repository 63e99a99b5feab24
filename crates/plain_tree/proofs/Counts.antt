-- Numbers that are put into a set one after the other.
use Rattle.std.proofs.Common.{◌≡◌, ◌↔◌, ℕ, zero, suc, ◌+◌, ◌<◌, ◌≤◌, Bool, true, false, not, ◌||◌, List, [], ◌∷◌, ◌++◌, take, drop, length, slice_index_or, nat_eq, IsTrue, if◌then◌else◌, refl, sym, ap, ◌∙◌, subst, arith}
use Rattle.std.proofs.lemmas.Bool.{eqb-true, eq-eqb, false≢true}
use Rattle.std.proofs.lemmas.List.{take-append-drop}
use Rattle.std.specs.List.{list_any}
use Rattle.indexmap.specs.IndexSet.{insert_key}
use Rattle.ir_tables.specs.of_ir_plain.Once.{hit}
use Rattle.plain_tree.specs.Sums.{count_of}

count-append : (k : ℕ) (xs ys : List ℕ) → count_of k (xs ++ ys) ≡ count_of k xs + count_of k ys
count-append k [] ys = omega arith
count-append k (x ∷ xs) ys = let r = count-append k xs ys in omega arith

hit-self : (k : ℕ) → hit k k ≡ 1
hit-self k = ap (λ b. if b then 1 else 0) (eq-eqb k k refl)

hit-at-most : (k x : ℕ) → hit k x ≤ 1
hit-at-most k x = by (nat_eq k x)
  where
    by : (b : Bool) → (if b then 1 else 0) ≤ 1
    by true = omega arith
    by false = omega arith

there : (ks : List ℕ) (k : ℕ) → list_any (nat_eq k) ks ≡ true → 1 ≤ count_of k ks
there [] k h = absurd (false≢true h)
there (x ∷ ks) k h = by (nat_eq k x) h (there ks k)
  where
    by : (b : Bool) → (b || list_any (nat_eq k) ks) ≡ true → (list_any (nat_eq k) ks ≡ true → 1 ≤ count_of k ks) → 1 ≤ (if b then 1 else 0) + count_of k ks
    by true h rest = omega arith
    by false h rest = let r = rest h in omega arith

absent : (ks : List ℕ) (k : ℕ) → list_any (nat_eq k) ks ≡ false → count_of k ks ≡ 0
absent [] k h = refl
absent (x ∷ ks) k h = by (nat_eq k x) h (absent ks k)
  where
    by : (b : Bool) → (b || list_any (nat_eq k) ks) ≡ false → (list_any (nat_eq k) ks ≡ false → count_of k ks ≡ 0) → (if b then 1 else 0) + count_of k ks ≡ 0
    by true h rest = absurd (false≢true (sym h))
    by false h rest = let r = rest h in omega arith

take-more : (xs : List ℕ) (i x : ℕ) → i < length xs → x ≡ slice_index_or xs i x → take (i + 1) xs ≡ take i xs ++ x ∷ []
take-more xs i x lt e = ap (λ n. take n xs) one ∙ go xs i lt e
  where
    one : i + 1 ≡ suc i
    one = omega arith

    go : (xs : List ℕ) (i : ℕ) → i < length xs → x ≡ slice_index_or xs i x → take (suc i) xs ≡ take i xs ++ x ∷ []
    go [] i lt e = absurd (omega arith)
    go (y ∷ xs) zero lt e = ap (λ z. z ∷ []) (sym e)
    go (y ∷ xs) (suc i) lt e = ap (λ l. y ∷ l) (go xs i (omega arith) e)

-- the first i are in the set, each once
pub record Counted (xs ks : List ℕ) (i : ℕ) : Type 0 where
  pub held : ks ≡ take i xs
  pub once : (k : ℕ) → count_of k (take i xs) ≤ 1

pub one-counted : (xs ks new : List ℕ) (i x : ℕ) (b : Bool) → i < length xs → x ≡ slice_index_or xs i x → Counted xs ks i → b ≡ not (list_any (nat_eq x) ks) → new ≡ insert_key nat_eq ks x → b ≡ true → Counted xs new (i + 1)
one-counted xs ks new i x b lt e c p q t = go (list_any (nat_eq x) ks) refl
  where
    go : (a : Bool) → list_any (nat_eq x) ks ≡ a → Counted xs new (i + 1)
    go true h = absurd (false≢true (sym (p ∙ ap not h) ∙ t))
    go false h = record {
      held = q ∙ ap (λ a. if a then ks else ks ++ x ∷ []) h ∙ ap (λ l. l ++ x ∷ []) c.held ∙ sym (take-more xs i x lt e);
      once = λ k. subst (λ l. count_of k l ≤ 1) (sym (take-more xs i x lt e)) (at k (c.once k));
    }
      where
        at : (k : ℕ) → count_of k (take i xs) ≤ 1 → count_of k (take i xs ++ x ∷ []) ≤ 1
        at k le = by (nat_eq k x) refl
          where
            by : (a : Bool) → nat_eq k x ≡ a → count_of k (take i xs ++ x ∷ []) ≤ 1
            by true s =
                let z : count_of k (take i xs) ≡ 0 = subst (λ j. count_of j (take i xs) ≡ 0) (sym (eqb-true k x s)) (ap (count_of x) (sym c.held) ∙ absent ks x h) in
                let r = count-append k (take i xs) (x ∷ []) in let m = hit-at-most k x in omega arith
            by false s = let z : hit k x ≡ 0 = ap (λ b. if b then 1 else 0) s in let r = count-append k (take i xs) (x ∷ []) in omega arith

pub twice-counted : (xs ks new : List ℕ) (i x : ℕ) (b : Bool) → i < length xs → x ≡ slice_index_or xs i x → Counted xs ks i → b ≡ not (list_any (nat_eq x) ks) → b ≡ false → ((k : ℕ) → count_of k xs ≤ 1) → ⊥
twice-counted xs ks new i x b lt e c p t once = go (list_any (nat_eq x) ks) refl
  where
    go : (a : Bool) → list_any (nat_eq x) ks ≡ a → ⊥
    go false h = false≢true (sym t ∙ p ∙ ap not h)
    go true h =
        let m : 1 ≤ count_of x (take i xs) = subst (λ l. 1 ≤ count_of x l) c.held (there ks x h) in
        let r = count-append x (take i xs) (x ∷ []) in
        let s = hit-self x in
        let u = count-append x (take (i + 1) xs) (drop (i + 1) xs) in
        let v : count_of x xs ≡ count_of x (take (i + 1) xs ++ drop (i + 1) xs) = ap (count_of x) (sym (take-append-drop (i + 1) xs)) in
        let w : count_of x (take (i + 1) xs) ≡ count_of x (take i xs ++ x ∷ []) = ap (count_of x) (take-more xs i x lt e) in
        let y = once x in omega arith

any-default : (xs : List ℕ) (i d e : ℕ) → i < length xs → slice_index_or xs i d ≡ slice_index_or xs i e
any-default [] i d e lt = absurd (omega arith)
any-default (x ∷ xs) zero d e lt = refl
any-default (x ∷ xs) (suc i) d e lt = any-default xs i d e (omega arith)

pub one-more : (xs ks new : List ℕ) (i d : ℕ) (b : Bool) → i < length xs → Counted xs ks i → b ≡ not (list_any (nat_eq (slice_index_or xs i d)) ks) → new ≡ insert_key nat_eq ks (slice_index_or xs i d) → b ≡ true
    → Counted xs new (i + 1)
one-more xs ks new i d b lt c p q t = one-counted xs ks new i (slice_index_or xs i d) b lt (any-default xs i d _ lt) c p q t

pub one-twice : (xs ks : List ℕ) (i d : ℕ) (b : Bool) → i < length xs → Counted xs ks i → b ≡ not (list_any (nat_eq (slice_index_or xs i d)) ks) → b ≡ false → IsTrue false ↔ ((k : ℕ) → count_of k xs ≤ 1)
one-twice xs ks i d b lt c p t = ((λ f. absurd (false≢true f)), (λ once. absurd (twice-counted xs ks ks i (slice_index_or xs i d) b lt (any-default xs i d _ lt) c p t once)))
