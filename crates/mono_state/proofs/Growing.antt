-- Tables that grow keep what they have.
use Rattle.std.proofs.Common.{◌≡◌, ◌⊎◌, inl, inr, ℕ, zero, suc, Bool, true, false, ◌&&◌, List, [], ◌∷◌, length, take, slice_get, get_or, None, Some, nat_eq, refl, sym, ap, ap₂, ◌∙◌}
use Rattle.std.proofs.lemmas.Bool.{eqb-true, eq-eqb, false≢true}
use Rattle.std.proofs.Math.Seq.{take-length, take-append_seam}
use Rattle.ty_core.specs.Types.{Typ}
use Rattle.mono_close.proofs.Tables.{below-longer, length-longer}
use Rattle.mono_names.specs.Numbers.{IsNumbered}
use Rattle.needed_scopes.specs.Scopes.{OpenScope, of_variable, of_binding}
use Rattle.mono_state.specs.Seen.{Held, Longer, Later}
use Rattle.mono_state.specs.Going.{IsHeld, AllHeld, ScopesHeld, OwnHeld}

-- lists

module _ {A : Type 0} where
  pub got-longer : (l m : List A) (n : ℕ) (x : A) → take (length l) m ≡ l → slice_get l n ≡ Some x → slice_get m n ≡ Some x
  got-longer [] m n x e g = absurd (cc)
  got-longer (y ∷ l) [] n x e g = absurd (cc)
  got-longer (y ∷ l) (z ∷ m) zero x e g = let p : z ≡ y = cc in ap Some p ∙ g
  got-longer (y ∷ l) (z ∷ m) (suc n) x e g = let p : take (length l) m ≡ l = cc in got-longer l m n x p g

  then-longer : (l m k : List A) → take (length l) m ≡ l → take (length m) k ≡ m → take (length l) k ≡ l
  then-longer [] m k e f = refl
  then-longer (x ∷ l) [] k e f = absurd (cc)
  then-longer (x ∷ l) (y ∷ m) [] e f = absurd (cc)
  then-longer (x ∷ l) (y ∷ m) (z ∷ k) e f =
      let p : y ≡ x = cc in
      let q : z ≡ y = cc in
      let a : take (length l) m ≡ l = cc in
      let b : take (length m) k ≡ m = cc in
      ap₂ (λ w ws. w ∷ ws) (q ∙ p) (then-longer l m k a b)

  pub got-or : (l : List A) (n : ℕ) (d x : A) → slice_get l n ≡ Some x → get_or l n d ≡ x
  got-or [] n d x g = absurd (cc)
  got-or (y ∷ l) zero d x g = cc
  got-or (y ∷ l) (suc n) d x g = got-or l n d x g

  pub got-none : (l : List A) (n : ℕ) (d : A) → slice_get l n ≡ None → get_or l n d ≡ d
  got-none [] n d e = refl
  got-none (y ∷ l) zero d e = absurd (cc)
  got-none (y ∷ l) (suc n) d e = got-none l n d e

  -- what has a number is there, or goes last
  find : (same : A → A → Bool) → ((x y : A) → same x y ≡ true → x ≡ y) → ((x y : A) → x ≡ y → same x y ≡ true) → (l : List A) (x : A)
      → ((m : ℕ) × (slice_get l m ≡ Some x)) ⊎ ((m : ℕ) → slice_get l m ≡ Some x → ⊥)
  find same is back [] x = inr (λ m e. absurd (cc))
  find same is back (y ∷ l) x = go (same x y) refl (find same is back l x)
    where
      go : (b : Bool) → same x y ≡ b → ((m : ℕ) × (slice_get l m ≡ Some x)) ⊎ ((m : ℕ) → slice_get l m ≡ Some x → ⊥)
          → ((m : ℕ) × (slice_get (y ∷ l) m ≡ Some x)) ⊎ ((m : ℕ) → slice_get (y ∷ l) m ≡ Some x → ⊥)
      go true e r = inl (0, ap Some (sym (is x y e)))
      go false e (inl r) = inl (suc r.0, r.1)
      go false e (inr r) = inr other
        where
          other : (m : ℕ) → slice_get (y ∷ l) m ≡ Some x → ⊥
          other zero f = let p : y ≡ x = cc in false≢true (sym e ∙ back x y (sym p))
          other (suc m) f = r m f

  numbered : (same : A → A → Bool) → ((x y : A) → same x y ≡ true → x ≡ y) → ((x y : A) → x ≡ y → same x y ≡ true) → (old : List A) (x : A) (n : ℕ) (new : List A)
      → IsNumbered old x n new → take (length old) new ≡ old
  numbered same is back old x n new i = by (find same is back old x)
    where
      by : ((m : ℕ) × (slice_get old m ≡ Some x)) ⊎ ((m : ℕ) → slice_get old m ≡ Some x → ⊥) → take (length old) new ≡ old
      by (inl r) = ap (take (length old)) (i.known r.0 r.1) ∙ take-length old
      by (inr r) = ap (take (length old)) (i.added r).0 ∙ take-append_seam old (x ∷ [])

and_parts : (b c : Bool) → (b && c) ≡ true → (b ≡ true) × (c ≡ true)
and_parts true c e = (refl, e)
and_parts false c e = absurd (cc)

and_both : (b c : Bool) → b ≡ true → c ≡ true → (b && c) ≡ true
and_both true c e f = f
and_both false c e f = absurd (cc)

abbrev same_pair : ℕ × ℕ → ℕ × ℕ → Bool
same_pair a b = nat_eq a.0 b.0 && nat_eq a.1 b.1

abbrev same_numbers : List ℕ → List ℕ → Bool
same_numbers [] [] = true
same_numbers (x ∷ xs) (y ∷ ys) = nat_eq x y && same_numbers xs ys
same_numbers _ _ = false

numbers-is : (xs ys : List ℕ) → same_numbers xs ys ≡ true → xs ≡ ys
numbers-is [] [] e = refl
numbers-is (x ∷ xs) (y ∷ ys) e = let p = and_parts (nat_eq x y) (same_numbers xs ys) e in ap₂ (λ z zs. z ∷ zs) (eqb-true x y p.0) (numbers-is xs ys p.1)
numbers-is [] (y ∷ ys) e = absurd (cc)
numbers-is (x ∷ xs) [] e = absurd (cc)

numbers-same : (xs ys : List ℕ) → xs ≡ ys → same_numbers xs ys ≡ true
numbers-same [] [] e = refl
numbers-same (x ∷ xs) (y ∷ ys) e =
    let p : x ≡ y = cc in
    let q : xs ≡ ys = cc in
    and_both (nat_eq x y) (same_numbers xs ys) (eq-eqb x y p) (numbers-same xs ys q)
numbers-same [] (y ∷ ys) e = absurd (cc)
numbers-same (x ∷ xs) [] e = absurd (cc)

pub copies-longer : (old : List (ℕ × ℕ)) (x : ℕ × ℕ) (n : ℕ) (new : List (ℕ × ℕ)) → IsNumbered old x n new → take (length old) new ≡ old
copies-longer = numbered same_pair
    (λ x y e. let h = and_parts (nat_eq x.0 y.0) (nat_eq x.1 y.1) e in ap₂ (λ a b. (a, b)) (eqb-true x.0 y.0 h.0) (eqb-true x.1 y.1 h.1))
    (λ x y e. and_both (nat_eq x.0 y.0) (nat_eq x.1 y.1) (eq-eqb x.0 y.0 (ap (λ (p : ℕ × ℕ). p.0) e)) (eq-eqb x.1 y.1 (ap (λ (p : ℕ × ℕ). p.1) e)))

pub lists-longer : (old : List (List ℕ)) (x : List ℕ) (n : ℕ) (new : List (List ℕ)) → IsNumbered old x n new → take (length old) new ≡ old
lists-longer = numbered same_numbers numbers-is numbers-same

-- tables

pub same-longer : (H : Held) → Longer H H
same-longer H = record { types = take-length H.types; lists = take-length H.lists; copies = take-length H.copies }

pub on-longer : {H K U : Held} → Longer H K → Longer K U → Longer H U
on-longer {H = H} {K = K} {U = U} a b = record {
  types = then-longer H.types K.types U.types a.types b.types;
  lists = then-longer H.lists K.lists U.lists a.lists b.lists;
  copies = then-longer H.copies K.copies U.copies a.copies b.copies;
}

pub sooner : {H K U : Held} → Longer H K → Later K U → Later H U
sooner a b = record { longer = on-longer a b.longer; types_once = b.types_once; lists_once = b.lists_once }

pub with-types : (H : Held) (types : List Typ) → take (length H.types) types ≡ H.types → Longer H (record { types = types; lists = H.lists; copies = H.copies })
with-types H types e = record { types = e; lists = take-length H.lists; copies = take-length H.copies }

pub with-lists : (H : Held) (lists : List (List ℕ)) → take (length H.lists) lists ≡ H.lists → Longer H (record { types = H.types; lists = lists; copies = H.copies })
with-lists H lists e = record { types = take-length H.types; lists = e; copies = take-length H.copies }

pub with-copies : (H : Held) (copies : List (ℕ × ℕ)) → take (length H.copies) copies ≡ H.copies → Longer H (record { types = H.types; lists = H.lists; copies = copies })
with-copies H copies e = record { types = take-length H.types; lists = take-length H.lists; copies = e }

-- numbers stay

pub still-held : {H K : Held} → Longer H K → {k : ℕ} → IsHeld H k → IsHeld K k
still-held {H = H} {K = K} g {k = k} h = record {
  numbers = h.numbers;
  there = got-longer H.lists K.lists k h.numbers g.lists h.there;
  below = below-longer (length H.types) (length K.types) h.numbers (length-longer H.types K.types g.types) h.below;
}

pub still-all : {H K : Held} → Longer H K → (ks : List ℕ) → AllHeld H ks → AllHeld K ks
still-all g [] h = tt
still-all g (k ∷ ks) h = (still-held g h.0, still-all g ks h.1)

pub still-scopes : {H K : Held} → Longer H K → (l : List OpenScope) → ScopesHeld H l → ScopesHeld K l
still-scopes g [] h = tt
still-scopes g (of_variable x ∷ l) h = still-scopes g l h
still-scopes g (of_binding vs u ks ∷ l) h = (still-held g h.0, still-all g ks h.1, still-scopes g l h.2)

pub still-own : {H K : Held} → Longer H K → (own : List (ℕ × ℕ)) → OwnHeld H own → OwnHeld K own
still-own g [] h = tt
still-own g (e ∷ own) h = (still-held g h.0, still-own g own h.1)
