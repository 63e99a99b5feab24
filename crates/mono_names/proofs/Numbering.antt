-- Keys that are each there once, and what they stand for.
use Rattle.std.proofs.Common.{◌≡◌, ◌⊎◌, inl, inr, ℕ, zero, suc, Bool, true, false, ◌&&◌, ◌||◌, List, [], ◌∷◌, ◌++◌, map, length, Some, slice_get, nat_eq, if◌then◌else◌, refl, sym, ap, ap₂, subst, ◌∙◌}
use Rattle.std.specs.List.{list_any, AllByRecursion, IsDistinct}
use Rattle.std.proofs.lemmas.Bool.{and_from, eq-eqb, eqb-true}
use Rattle.std.proofs.lemmas.List.{map-append, map-id}
use Rattle.std.proofs.lemmas.Slice.Eq.{bytes_eq-Decides}
use Rattle.indexmap.specs.IndexSet.{insert_key}
use Rattle.mlc_names.proofs.NamesLemmas.{Kept, texts_of, same_text}
use Rattle.mono_names.specs.Numbers.{AreOnce, IsNumbered}

some-is : {A : Type 0} {x y : A} → Some x ≡ Some y → x ≡ y
some-is e = cc

-- what is at a number is at it before the last was added, or is the last
last-or-before : {A : Type 0} (l : List A) (x y : A) (n : ℕ) → slice_get (l ++ x ∷ []) n ≡ Some y → (slice_get l n ≡ Some y) ⊎ (n ≡ length l)
last-or-before [] x y zero e = inr refl
last-or-before [] x y (suc n) e = absurd (cc)
last-or-before (z ∷ l) x y zero e = inl e
last-or-before (z ∷ l) x y (suc n) e = by (last-or-before l x y n e)
  where
    by : (slice_get l n ≡ Some y) ⊎ (n ≡ length l) → (slice_get (z ∷ l) (suc n) ≡ Some y) ⊎ (suc n ≡ length (z ∷ l))
    by (inl h) = inl h
    by (inr h) = inr (ap suc h)

and_parts : (b c : Bool) → (b && c) ≡ true → (b ≡ true) × (c ≡ true)
and_parts true c e = (refl, e)
and_parts false c e = absurd (cc)

either : (b c : Bool) → c ≡ true → (b || c) ≡ true
either true c e = refl
either false c e = e

module _ {K A : Type 0} (f : K → A) (same : K → K → Bool) (right : (x y : K) → same x y ≡ true → f x ≡ f y) (back : (x y : K) → f x ≡ f y → same x y ≡ true) where
  held-at : (keys : List K) (x k : K) (n : ℕ) → slice_get keys n ≡ Some k → same x k ≡ true → slice_get (map f keys) n ≡ Some (f x)
  held-at [] x k n e s = absurd (cc)
  held-at (y ∷ keys) x k zero e s = ap Some (ap f (some-is e) ∙ sym (right x k s))
  held-at (y ∷ keys) x k (suc n) e s = held-at keys x k n e s

  any-there : (keys : List K) (x : K) (m : ℕ) → slice_get (map f keys) m ≡ Some (f x) → list_any (same x) keys ≡ true
  any-there [] x m e = absurd (cc)
  any-there (y ∷ keys) x zero e = ap (λ b. b || list_any (same x) keys) (back x y (sym (some-is e)))
  any-there (y ∷ keys) x (suc m) e = either (same x y) (list_any (same x) keys) (any-there keys x m e)

  pub numbered : (keys more : List K) (x k : K) (n : ℕ) → more ≡ insert_key same keys x → slice_get more n ≡ Some k → same x k ≡ true → IsNumbered (map f keys) (f x) n (map f more)
  numbered keys more x k n i e s = by (list_any (same x) keys) refl
    where
      held : slice_get (map f more) n ≡ Some (f x)
      held = held-at more x k n e s

      by : (b : Bool) → list_any (same x) keys ≡ b → IsNumbered (map f keys) (f x) n (map f more)
      by true a =
          let j : more ≡ keys = i ∙ ap (λ b. if b then keys else keys ++ x ∷ []) a in
          record { held = held; known = λ m g. ap (map f) j; added = λ none. absurd (none n (subst (λ l. slice_get (map f l) n ≡ Some (f x)) j held)) }
      by false a =
          let j : map f more ≡ map f keys ++ f x ∷ [] = ap (map f) (i ∙ ap (λ b. if b then keys else keys ++ x ∷ []) a) ∙ map-append f keys (x ∷ []) in
          record {
            held = held;
            known = λ m g. absurd (let t = any-there keys x m g in let c : true ≡ false = sym t ∙ a in cc);
            added = λ none. (j, last none (last-or-before (map f keys) (f x) (f x) n (subst (λ l. slice_get l n ≡ Some (f x)) j held)));
          }
        where
          last : ((m : ℕ) → slice_get (map f keys) m ≡ Some (f x) → ⊥) → (slice_get (map f keys) n ≡ Some (f x)) ⊎ (n ≡ length (map f keys)) → n ≡ length (map f keys)
          last none (inl h) = absurd (none n h)
          last none (inr h) = h

  none-there : (keys : List K) (x : K) (m : ℕ) → AllByRecursion (λ y. same x y ≡ false) keys → slice_get (map f keys) m ≡ Some (f x) → ⊥
  none-there [] x m h e = cc
  none-there (y ∷ keys) x zero h e = let t = back x y (sym (some-is e)) in let c : true ≡ false = sym t ∙ h.0 in cc
  none-there (y ∷ keys) x (suc m) h e = none-there keys x m h.1 e

  pub once : (keys : List K) → IsDistinct same keys → AreOnce (map f keys)
  unfolding IsDistinct
  once [] d n m x p q = absurd (cc)
  once (k ∷ keys) d zero zero x p q = refl
  once (k ∷ keys) d zero (suc m) x p q = absurd (none-there keys k m d.0 (q ∙ sym p))
  once (k ∷ keys) d (suc n) zero x p q = absurd (none-there keys k n d.0 (p ∙ sym q))
  once (k ∷ keys) d (suc n) (suc m) x p q = ap suc (once keys d.1 n m x p q)

-- lists

pub list-numbered : (keys more : List Kept) (x k : Kept) (n : ℕ) (old : List (List ℕ)) → texts_of keys ≡ old → more ≡ insert_key same_text keys x → slice_get more n ≡ Some k → same_text x k ≡ true → IsNumbered old x.items n (texts_of more)
list-numbered keys more x k n old v i e s = subst (λ old. IsNumbered old x.items n (texts_of more)) v
    (numbered (λ (k : Kept). k.items) same_text (λ x y. (bytes_eq-Decides x.items y.items).0) (λ x y. (bytes_eq-Decides x.items y.items).1) keys more x k n i e s)

pub lists-once : (keys : List Kept) (lists : List (List ℕ)) → texts_of keys ≡ lists → IsDistinct same_text keys → AreOnce lists
lists-once keys lists v d = subst AreOnce v (once (λ (k : Kept). k.items) same_text (λ x y. (bytes_eq-Decides x.items y.items).0) (λ x y. (bytes_eq-Decides x.items y.items).1) keys d)

-- copies

abbrev pub same_copy : ℕ × ℕ → ℕ × ℕ → Bool
same_copy x y = nat_eq x.0 y.0 && nat_eq x.1 y.1

copy-right : (x y : ℕ × ℕ) → same_copy x y ≡ true → x ≡ y
copy-right x y e = let h = and_parts (nat_eq x.0 y.0) (nat_eq x.1 y.1) e in ap₂ (λ a b. (a, b)) (eqb-true x.0 y.0 h.0) (eqb-true x.1 y.1 h.1)

copy-back : (x y : ℕ × ℕ) → x ≡ y → same_copy x y ≡ true
copy-back x y e = and_from (nat_eq x.0 y.0) (nat_eq x.1 y.1) (eq-eqb x.0 y.0 (ap (λ (p : ℕ × ℕ). p.0) e)) (eq-eqb x.1 y.1 (ap (λ (p : ℕ × ℕ). p.1) e))

pub copy-numbered : (keys more : List (ℕ × ℕ)) (x k : ℕ × ℕ) (n : ℕ) (old : List (ℕ × ℕ)) → keys ≡ old → more ≡ insert_key same_copy keys x → slice_get more n ≡ Some k → same_copy x k ≡ true → IsNumbered old x n more
copy-numbered keys more x k n old v i e s = subst (λ old. IsNumbered old x n more) (map-id keys ∙ v)
    (subst (IsNumbered (map (λ (p : ℕ × ℕ). p) keys) x n) (map-id more) (numbered (λ (p : ℕ × ℕ). p) same_copy copy-right copy-back keys more x k n i e s))

pub copies-once : (keys copies : List (ℕ × ℕ)) → keys ≡ copies → IsDistinct same_copy keys → AreOnce copies
copies-once keys copies v d = subst AreOnce (map-id keys ∙ v) (once (λ (p : ℕ × ℕ). p) same_copy copy-right copy-back keys d)
