-- Labels that ascend, and what stands beside them.
use Rattle.std.proofs.Common.{◌≡◌, ℕ, zero, suc, ◌+◌, ◌-◌, ◌<◌, ◌≤◌, Bool, true, false, ◌&&◌, cond, nat_eq, nat_lt, List, [], ◌∷◌, length, take, zip, map, slice_index_or, Some, None, refl, sym, ap, ◌∙◌, subst, arith}
use Rattle.std.proofs.lemmas.Bool.{and_parts, and_from, eqb-true, ltb-true, lt-ltb}
use Rattle.std.specs.Map.{lookup}
use Rattle.mlc_names.specs.declared.label.Label.{Label}
use Rattle.mlc_names.specs.declared.label.Label.TheVariants.{Number, Word}
use Rattle.ty_core.specs.Types.{Typ, con, labels}
use Rattle.ty_table.specs.TypeAt.{type_at, types_at}
use Rattle.ir_values.specs.Values.{same_label}
use Rattle.ir_uses.specs.of_ir_poly.Types.{label_before, ascend, labels_in}
use Rattle.ir_uses.specs.of_prog_check.Deciding.{row_in, on_row}
use Rattle.ir_uses.proofs.of_prog_check.SameLemmas.{label-same, same-label}
use Rattle.ir_uses.proofs.Records.{row-some}
use Rattle.record_order.specs.Order.{is_ordered}

-- The order

earlier : (m n : ℕ) → nat_lt m n ≡ true → nat_eq m n ≡ false
earlier m n e = go (nat_eq m n) refl
  where
    go : (b : Bool) → nat_eq m n ≡ b → b ≡ false
    go true d = let same = eqb-true m n d in let less = ltb-true m n e in absurd (omega (arith, same, less))
    go false d = refl

later : (m n : ℕ) → nat_lt n m ≡ true → nat_eq m n ≡ false
later m n e = go (nat_eq m n) refl
  where
    go : (b : Bool) → nat_eq m n ≡ b → b ≡ false
    go true d = let same = eqb-true m n d in let less = ltb-true n m e in absurd (omega (arith, same, less))
    go false d = refl

before-other : (l k : Label) → label_before l k ≡ true → same_label l k ≡ false
before-other (Number m) (Number n) e = earlier m n e
before-other (Number m) (Word x) e = refl
before-other (Word x) (Number n) e = absurd (cc)
before-other (Word x) (Word y) e = earlier x y e

after-other : (l k : Label) → label_before k l ≡ true → same_label l k ≡ false
after-other (Number m) (Number n) e = later m n e
after-other (Number m) (Word x) e = refl
after-other (Word x) (Number n) e = refl
after-other (Word x) (Word y) e = later x y e

neither-less : (m n : ℕ) → nat_lt m n ≡ false → nat_lt n m ≡ false → nat_eq n m ≡ true
neither-less m n e d = grind (arith, e, d)

neither-same : (l k : Label) → label_before k l ≡ false → label_before l k ≡ false → same_label l k ≡ true
neither-same (Number m) (Number n) e d = neither-less n m e d
neither-same (Number m) (Word x) e d = absurd (cc)
neither-same (Word x) (Number n) e d = absurd (cc)
neither-same (Word x) (Word y) e d = neither-less y x e d

before-trans : (l k j : Label) → label_before l k ≡ true → label_before k j ≡ true → label_before l j ≡ true
before-trans (Number m) (Number n) (Number i) e d = lt-ltb m i (let a = ltb-true m n e in let b = ltb-true n i d in omega (arith, a, b))
before-trans (Number m) (Number n) (Word z) e d = refl
before-trans (Number m) (Word y) (Number i) e d = absurd (cc)
before-trans (Number m) (Word y) (Word z) e d = refl
before-trans (Word x) (Number n) j e d = absurd (cc)
before-trans (Word x) (Word y) (Number i) e d = absurd (cc)
before-trans (Word x) (Word y) (Word z) e d = lt-ltb x z (let a = ltb-true x y e in let b = ltb-true y z d in omega (arith, a, b))

-- Labels one after the other

pub ascend-more : (ls : List Label) (i : ℕ) (c d : Label) → 1 ≤ i → i < length ls → c ≡ slice_index_or ls (i - 1) c → d ≡ slice_index_or ls i d → ascend (take i ls) ≡ true → label_before c d ≡ true → ascend (take (i + 1) ls) ≡ true
ascend-more ls zero c d le lt p q e b = absurd (omega arith)
ascend-more ls (suc i) c d le lt p q e b =
    subst (λ n. ascend (take n ls) ≡ true) one (go ls i lt e (ap (λ j. label_before j (slice_index_or ls (suc i) d)) (ap (λ n. slice_index_or ls n c) (sym back) ∙ sym p) ∙ ap (label_before c) (sym q) ∙ b))
  where
    one : suc (suc i) ≡ suc i + 1
    one = omega arith

    back : suc i - 1 ≡ i
    back = omega arith

    go : (ls : List Label) (i : ℕ) → suc i < length ls → ascend (take (suc i) ls) ≡ true → label_before (slice_index_or ls i c) (slice_index_or ls (suc i) d) ≡ true → ascend (take (suc (suc i)) ls) ≡ true
    go [] i lt e b = absurd (omega arith)
    go (l ∷ []) i lt e b = absurd (omega arith)
    go (l ∷ k ∷ ls) zero lt e b = and_from _ _ b refl
    go (l ∷ k ∷ ls) (suc i) lt e b = let a = and_parts (label_before l k) _ e in and_from _ _ a.0 (go (k ∷ ls) i (omega arith) a.1 b)

pub ascend-not : (ls : List Label) (i : ℕ) (c d : Label) → 1 ≤ i → i < length ls → c ≡ slice_index_or ls (i - 1) c → d ≡ slice_index_or ls i d → label_before c d ≡ false → false ≡ ascend ls
ascend-not ls zero c d le lt p q b = absurd (omega arith)
ascend-not ls (suc i) c d le lt p q b = sym (go ls i lt (ap (λ j. label_before j (slice_index_or ls (suc i) d)) (ap (λ n. slice_index_or ls n c) (sym back) ∙ sym p) ∙ ap (label_before c) (sym q) ∙ b))
  where
    back : suc i - 1 ≡ i
    back = omega arith

    go : (ls : List Label) (i : ℕ) → suc i < length ls → label_before (slice_index_or ls i c) (slice_index_or ls (suc i) d) ≡ false → ascend ls ≡ false
    go [] i lt b = absurd (omega arith)
    go (l ∷ []) i lt b = absurd (omega arith)
    go (l ∷ k ∷ ls) zero lt b = ap (λ z. z && ascend (k ∷ ls)) b
    go (l ∷ k ∷ ls) (suc i) lt b = by (label_before l k) (go (k ∷ ls) i (omega arith) b)
      where
        by : (z : Bool) → ascend (k ∷ ls) ≡ false → (z && ascend (k ∷ ls)) ≡ false
        by true e = e
        by false e = refl

pub all-ascend : (ls : List Label) (n : ℕ) → length ls ≤ n → ascend (take n ls) ≡ true → true ≡ ascend ls
all-ascend ls n le e = sym e ∙ ap ascend (whole ls n le)
  where
    whole : (ls : List Label) (n : ℕ) → length ls ≤ n → take n ls ≡ ls
    whole [] zero le = refl
    whole [] (suc n) le = refl
    whole (l ∷ ls) zero le = absurd (omega arith)
    whole (l ∷ ls) (suc n) le = ap (λ ks. l ∷ ks) (whole ls n (omega arith))

any-default : (ls : List Label) (k : ℕ) (c d : Label) → k < length ls → slice_index_or ls k c ≡ slice_index_or ls k d
any-default [] k c d lt = absurd (omega arith)
any-default (l ∷ ls) zero c d lt = refl
any-default (l ∷ ls) (suc k) c d lt = any-default ls k c d (omega arith)

-- each stands before each that comes later
first-before : (l : Label) (ls : List Label) (d : Label) → ascend (l ∷ ls) ≡ true → (k : ℕ) → k < length ls → label_before l (slice_index_or ls k d) ≡ true
first-before l [] d e k lt = absurd (omega arith)
first-before l (j ∷ ls) d e zero lt = (and_parts (label_before l j) _ e).0
first-before l (j ∷ ls) d e (suc k) lt = let a = and_parts (label_before l j) _ e in before-trans l j _ a.0 (first-before j ls d a.1 k (omega arith))

rest-ascend : (l : Label) (ls : List Label) → ascend (l ∷ ls) ≡ true → ascend ls ≡ true
rest-ascend l [] e = refl
rest-ascend l (j ∷ ls) e = (and_parts (label_before l j) _ e).1

each-before : (ls : List Label) (d : Label) → ascend ls ≡ true → (i k : ℕ) → i < k → k < length ls → label_before (slice_index_or ls i d) (slice_index_or ls k d) ≡ true
each-before [] d e i k lt le = absurd (omega arith)
each-before (l ∷ ls) d e i zero lt le = absurd (omega arith)
each-before (l ∷ ls) d e zero (suc k) lt le = first-before l ls d e k (omega arith)
each-before (l ∷ ls) d e (suc i) (suc k) lt le = each-before ls d (rest-ascend l ls e) i k (omega arith) (omega arith)

-- What stands beside a label

module _ (l : Label) where
  nowhere : (ls : List Label) (ks : List ℕ) → ((k : ℕ) → k < length ls → same_label l (slice_index_or ls k l) ≡ false) → None ≡ lookup (same_label l) (zip ls ks)
  nowhere [] ks n = refl
  nowhere (j ∷ ls) [] n = refl
  nowhere (j ∷ ls) (k ∷ ks) n =
      nowhere ls ks (λ i lt. n (suc i) (omega arith)) ∙ sym (ap (λ b. cond b (Some k) (lookup (same_label l) (zip ls ks))) (n zero (omega arith)))

  here : (ls : List Label) (ks : List ℕ) (i c : ℕ) → i < length ls → length ls ≡ length ks → ((k : ℕ) → k < i → same_label l (slice_index_or ls k l) ≡ false) → same_label l (slice_index_or ls i l) ≡ true
      → Some (slice_index_or ks i c) ≡ lookup (same_label l) (zip ls ks)
  here [] ks i c lt e n s = absurd (omega arith)
  here (j ∷ ls) [] i c lt e n s = absurd (omega arith)
  here (j ∷ ls) (k ∷ ks) zero c lt e n s = sym (ap (λ b. cond b (Some k) (lookup (same_label l) (zip ls ks))) s)
  here (j ∷ ls) (k ∷ ks) (suc i) c lt e n s =
      here ls ks i c (omega arith) (omega arith) (λ m le. n (suc m) (omega arith)) s
      ∙ sym (ap (λ b. cond b (Some k) (lookup (same_label l) (zip ls ks))) (n zero (omega arith)))

  -- those before `low` stand before the label, and it before those from `high` on
  pub record Between (ls : List Label) (low high : ℕ) : Type 0 where
    pub within : high ≤ length ls
    pub below : (k : ℕ) → k < low → label_before (slice_index_or ls k l) l ≡ true
    pub above : (k : ℕ) → high ≤ k → k < length ls → label_before l (slice_index_or ls k l) ≡ true

  pub between-all : (ls : List Label) (n : ℕ) → n ≡ length ls → Between ls 0 n
  between-all ls n e = record {
    within = omega (arith, e);
    below = λ k lt. absurd (omega (arith, lt));
    above = λ k le lt. absurd (omega (arith, e, le, lt));
  }

  pub upper-half : (ls : List Label) (low high i : ℕ) (d : Label) → ascend ls ≡ true → i < high → d ≡ slice_index_or ls i d → label_before d l ≡ true → Between ls low high → Between ls (i + 1) high
  upper-half ls low high i d e lt q b w = record {
    within = w.within;
    below = λ k le. at k le (nat_lt k i) refl;
    above = w.above;
  }
    where
      inside : i < length ls
      inside = omega (arith, lt, w.within)

      b' : label_before (slice_index_or ls i l) l ≡ true
      b' = ap (λ j. label_before j l) (any-default ls i l d inside ∙ sym q) ∙ b

      at : (k : ℕ) → k < i + 1 → (c : Bool) → nat_lt k i ≡ c → label_before (slice_index_or ls k l) l ≡ true
      at k le true p = before-trans _ (slice_index_or ls i l) l (each-before ls l e k i (ltb-true k i p) inside) b'
      at k le false p = let same : k ≡ i = grind (arith, le, p) in subst (λ n. label_before (slice_index_or ls n l) l ≡ true) (sym same) b'

  pub lower-half : (ls : List Label) (low high i : ℕ) (d : Label) → ascend ls ≡ true → i < high → d ≡ slice_index_or ls i d → label_before l d ≡ true → Between ls low high → Between ls low i
  lower-half ls low high i d e lt q b w = record {
    within = omega (arith, lt, w.within);
    below = w.below;
    above = λ k le ge. at k le ge (nat_lt i k) refl;
  }
    where
      inside : i < length ls
      inside = omega (arith, lt, w.within)

      b' : label_before l (slice_index_or ls i l) ≡ true
      b' = ap (label_before l) (any-default ls i l d inside ∙ sym q) ∙ b

      at : (k : ℕ) → i ≤ k → k < length ls → (c : Bool) → nat_lt i k ≡ c → label_before l (slice_index_or ls k l) ≡ true
      at k le ge true p = before-trans l (slice_index_or ls i l) _ b' (each-before ls l e i k (ltb-true i k p) ge)
      at k le ge false p = let same : k ≡ i = grind (arith, le, p) in subst (λ n. label_before l (slice_index_or ls n l) ≡ true) (sym same) b'

  pub found : (ls : List Label) (ks : List ℕ) (low high i c : ℕ) (d : Label) → length ls ≡ length ks → ascend ls ≡ true → i < high → d ≡ slice_index_or ls i d → label_before d l ≡ false → label_before l d ≡ false
      → Between ls low high → Some (slice_index_or ks i c) ≡ lookup (same_label l) (zip ls ks)
  found ls ks low high i c d same e lt r p q w = here ls ks i c inside same (λ k le. other k le) now
    where
      inside : i < length ls
      inside = omega (arith, lt, w.within)

      now : same_label l (slice_index_or ls i l) ≡ true
      now = ap (same_label l) (any-default ls i l d inside ∙ sym r) ∙ neither-same l d p q

      step : (j k : Label) → same_label l k ≡ true → label_before j k ≡ true → same_label l j ≡ false
      step j k s b = by (same_label l j) refl
        where
          by : (z : Bool) → same_label l j ≡ z → z ≡ false
          by true u = absurd (let x : j ≡ k = sym (label-same l j u) ∙ label-same l k s in
              let y : same_label j k ≡ false = before-other j k b in
              let v : same_label j k ≡ true = subst (λ m. same_label j m ≡ true) x (same-label j) in cc)
          by false u = refl

      other : (k : ℕ) → k < i → same_label l (slice_index_or ls k l) ≡ false
      other k le = step (slice_index_or ls k l) (slice_index_or ls i l) now (each-before ls l e k i le inside)

  pub not-found : (ls : List Label) (ks : List ℕ) (low high : ℕ) → high ≤ low → Between ls low high → None ≡ lookup (same_label l) (zip ls ks)
  not-found ls ks low high le w = nowhere ls ks (λ k lt. at k lt (nat_lt k low) refl)
    where
      at : (k : ℕ) → k < length ls → (c : Bool) → nat_lt k low ≡ c → same_label l (slice_index_or ls k l) ≡ false
      at k lt true p = after-other l _ (w.below k (ltb-true k low p))
      at k lt false p = before-other l _ (w.above k (grind (arith, le, p)) lt)

-- Whether the labels of a type ascend

zip-labels : {A : Type 0} (ls : List Label) (us : List A) → length ls ≡ length us → map (λ f. f.0) (zip ls us) ≡ ls
zip-labels [] us e = refl
zip-labels (l ∷ ls) [] e = absurd (omega arith)
zip-labels (l ∷ ls) (u ∷ us) e = ap (λ ks. l ∷ ks) (zip-labels ls us (omega arith))

map-long : {A B : Type 0} (f : A → B) (xs : List A) → length (map f xs) ≡ length xs
map-long f [] = refl
map-long f (x ∷ xs) = ap (λ n. suc n) (map-long f xs)

pub order-some : (ts : List Typ) (t : Typ) (ls : List Label) (ks : List ℕ) → t ≡ con (labels ls) (types_at ts ks) → length ls ≡ length ks → is_ordered t ≡ ascend ls
order-some ts t ls ks e n =
    ap (λ o. on_row o (λ r. ascend (labels_in r))) (row-some ts t ls ks e n)
    ∙ ap ascend (zip-labels ls (map (type_at ts) ks) (n ∙ sym (map-long (type_at ts) ks)))

pub order-none : (t : Typ) → row_in t ≡ None → false ≡ is_ordered t
order-none t e = sym (ap (λ o. on_row o (λ r. ascend (labels_in r))) e)
