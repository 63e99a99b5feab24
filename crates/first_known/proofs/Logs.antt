-- Bindings that can be undone, and the index that finds the latest.
use Rattle.std.proofs.Common.{◌≡◌, ℕ, zero, suc, ◌-◌, ◌<◌, ◌≤◌, Bool, true, false, ◌||◌, List, [], ◌∷◌, ◌++◌, length, reverse, drop, Option, Some, nat_eq, cond, refl, sym, ap, ◌∙◌, subst, arith}
use Rattle.std.proofs.lemmas.Bool.{eqb-true}
use Rattle.std.proofs.lemmas.List.{reverse-append, length-drop}
use Rattle.std.specs.Map.{lookup}
use Rattle.indexmap.specs.IndexMap.{insert_entry}
use Rattle.first_values.specs.WellFormed.{is_among}
use Rattle.first_known.specs.declared.scope.Bound.{Bound}
use Rattle.first_known.specs.Logs.{variables_in, known, IsLog}

module _ {V : Type 0} where
  pub inserted : (es : List (ℕ × V)) (k x : ℕ) (v : V) → lookup (nat_eq x) (insert_entry nat_eq es k v) ≡ cond (nat_eq x k) (Some v) (lookup (nat_eq x) es)
  inserted [] k x v = refl
  inserted (e ∷ es) k x v = by (nat_eq k e.0) refl (nat_eq x e.0) refl (nat_eq x k) refl (inserted es k x v)
    where
      by : (b : Bool) → nat_eq k e.0 ≡ b → (c : Bool) → nat_eq x e.0 ≡ c → (d : Bool) → nat_eq x k ≡ d → lookup (nat_eq x) (insert_entry nat_eq es k v) ≡ cond d (Some v) (lookup (nat_eq x) es)
          → lookup (nat_eq x) (cond b ((e.0, v) ∷ es) (e ∷ insert_entry nat_eq es k v)) ≡ cond d (Some v) (cond c (Some e.1) (lookup (nat_eq x) es))
      by true p true q true r h = ap (λ b. cond b (Some v) (lookup (nat_eq x) es)) q
      by true p false q false r h = ap (λ b. cond b (Some v) (lookup (nat_eq x) es)) q
      by true p true q false r h = absurd (let s = eqb-true k e.0 p in let u : nat_eq x k ≡ true = subst (λ n. nat_eq x n ≡ true) (sym s) q in cc)
      by true p false q true r h = absurd (let s = eqb-true k e.0 p in let u : nat_eq x e.0 ≡ true = subst (λ n. nat_eq x n ≡ true) s r in cc)
      by false p true q true r h = absurd (let s = eqb-true x k r in let u : nat_eq k e.0 ≡ true = subst (λ n. nat_eq n e.0 ≡ true) s q in cc)
      by false p true q false r h = ap (λ b. cond b (Some e.1) (lookup (nat_eq x) (insert_entry nat_eq es k v))) q
      by false p false q true r h = ap (λ b. cond b (Some e.1) (lookup (nat_eq x) (insert_entry nat_eq es k v))) q ∙ h
      by false p false q false r h = ap (λ b. cond b (Some e.1) (lookup (nat_eq x) (insert_entry nat_eq es k v))) q ∙ h

pub log-bound : (bs : List Bound) (b : Bound) (index new : List (ℕ × Bool)) → IsLog bs index → b.before ≡ is_among b.variable (variables_in bs)
    → new ≡ insert_entry nat_eq index b.variable true → IsLog (b ∷ bs) new
log-bound bs b index new l e n = record {
  before = (e, l.before);
  found = λ x. ap (λ i. known (lookup (nat_eq x) i)) n ∙ ap known (inserted index b.variable x true) ∙ by x (nat_eq x b.variable) (l.found x);
}
  where
    by : (x : ℕ) (c : Bool) → known (lookup (nat_eq x) index) ≡ is_among x (variables_in bs) → known (cond c (Some true) (lookup (nat_eq x) index)) ≡ (c || is_among x (variables_in bs))
    by x true h = refl
    by x false h = h

pub log-left : (bs : List Bound) (b : Bound) (index new : List (ℕ × Bool)) → IsLog (b ∷ bs) index → new ≡ insert_entry nat_eq index b.variable b.before → IsLog bs new
log-left bs b index new l n = record {
  before = l.before.1;
  found = λ x. ap (λ i. known (lookup (nat_eq x) i)) n ∙ ap known (inserted index b.variable x b.before) ∙ by x (nat_eq x b.variable) refl (l.found x);
}
  where
    by : (x : ℕ) (c : Bool) → nat_eq x b.variable ≡ c → known (lookup (nat_eq x) index) ≡ (c || is_among x (variables_in bs))
        → known (cond c (Some b.before) (lookup (nat_eq x) index)) ≡ is_among x (variables_in bs)
    by x true p h = l.before.0 ∙ ap (λ n. is_among n (variables_in bs)) (sym (eqb-true x b.variable p))
    by x false p h = h

pub turned : {A : Type 0} (xs : List A) (x : A) → reverse (xs ++ x ∷ []) ≡ x ∷ reverse xs
turned xs x = reverse-append xs (x ∷ [])

-- how far a list was left
pub record Left {A : Type 0} (old now : List A) (len : ℕ) : Type 0 where
  pub dropped : ℕ
  pub is : now ≡ drop dropped old
  pub within : dropped ≤ length old - len

drop-more : {A : Type 0} (n : ℕ) (xs : List A) → drop 1 (drop n xs) ≡ drop (suc n) xs
drop-more zero xs = refl
drop-more (suc n) [] = refl
drop-more (suc n) (x ∷ xs) = drop-more n xs

pub left-starts : {A : Type 0} (old : List A) (len : ℕ) → Left old old len
left-starts old len = record { dropped = 0; is = refl; within = omega arith }

pub left-more : {A : Type 0} (old now new : List A) (len : ℕ) → Left old now len → len < length now → new ≡ drop 1 now → Left old new len
left-more old now new len l lt e =
    let k = ap length l.is ∙ length-drop l.dropped old in record { dropped = suc l.dropped; is = e ∙ ap (drop 1) l.is ∙ drop-more l.dropped old; within = omega (arith, k) }

pub shorter : {A : Type 0} (now new : List A) (len : ℕ) → len < length now → new ≡ drop 1 now → length new < length now
shorter now new len lt e = let k = ap length e ∙ length-drop 1 now in omega (arith, k)

pub left-ends : {A : Type 0} (old now : List A) (len : ℕ) → Left old now len → length now ≤ len → now ≡ drop (length old - len) old
left-ends old now len l le = let k = ap length l.is ∙ length-drop l.dropped old in let w = l.within in let e : l.dropped ≡ length old - len = omega (arith, k, w, le) in l.is ∙ ap (λ n. drop n old) e
