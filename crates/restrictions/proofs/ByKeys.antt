-- Labels and identifiers are distinct where their numbers are.
use Rattle.std.proofs.Common.{◌≡◌, ◌<◌, ◌+◌, ℕ, zero, suc, Bool, true, false, not, ◌&&◌, ◌||◌, List, [], ◌∷◌, map, nat_eq, refl, sym, ap, ap₂, ◌∙◌, arith}
use Rattle.std.proofs.lemmas.Bool.{eqb-true, eq-eqb}
use Rattle.mlc_names.specs.declared.label.Label.{Label}
use Rattle.mlc_names.specs.declared.label.Label.TheVariants.{Number, Word}
use Rattle.sml_tree.specs.declared.ident.Vid.{Vid}
use Rattle.sml_tree.specs.declared.ident.Vid.TheVariants.{Named, Equals, Fresh}
use Rattle.sml_tree.specs.TreeOf.{ex_bind_of}
use Rattle.sml_tree.specs.declared.tree.ExBind.{ExBind}
use Rattle.sml_tree.specs.declared.tree.ExBind.TheVariants as exn
use Rattle.core_rules.specs.Restrictions.{distinct, exn_vids}
use Rattle.core_rules.specs.Words.{is_in, same_label, same_vid}
use Rattle.restrictions.specs.Keys.{exn_key, label_key, vid_key}

same-answer : (a b : Bool) → (a ≡ true → b ≡ true) → (b ≡ true → a ≡ true) → a ≡ b
same-answer true true f g = refl
same-answer false false f g = refl
same-answer true false f g = absurd (let e : false ≡ true = f refl in cc)
same-answer false true f g = absurd (let e : false ≡ true = g refl in cc)

odd-even : (m n : ℕ) → m + m ≡ n + n + 1 → ⊥
odd-even zero n e = absurd (omega arith)
odd-even (suc m) zero e = absurd (omega arith)
odd-even (suc m) (suc n) e = odd-even m n (omega arith)

-- a number and more
same-more : (m n k : ℕ) → nat_eq (m + m + k) (n + n + k) ≡ nat_eq m n
same-more m n k =
    same-answer (nat_eq (m + m + k) (n + n + k)) (nat_eq m n) (λ e. let p = eqb-true (m + m + k) (n + n + k) e in eq-eqb m n (omega (arith, p)))
    (λ e. let p = eqb-true m n e in eq-eqb (m + m + k) (n + n + k) (omega (arith, p)))

other : (m n : ℕ) → (m ≡ n → ⊥) → nat_eq m n ≡ false
other m n f = same-answer (nat_eq m n) false (λ e. absurd (f (eqb-true m n e))) (λ e. absurd (cc))

label-same : (l k : Label) → nat_eq (label_key l) (label_key k) ≡ same_label l k
label-same (Number m) (Number n) =
    same-answer (nat_eq (m + m) (n + n)) (nat_eq m n) (λ e. let p = eqb-true (m + m) (n + n) e in eq-eqb m n (omega (arith, p)))
    (λ e. let p = eqb-true m n e in eq-eqb (m + m) (n + n) (omega (arith, p)))
label-same (Word x) (Word y) = same-more x y 1
label-same (Number m) (Word y) = other (m + m) (y + y + 1) (odd-even m y)
label-same (Word x) (Number n) = other (x + x + 1) (n + n) (λ e. odd-even n x (sym e))

pub vid-same : (x y : Vid) → nat_eq (vid_key x) (vid_key y) ≡ same_vid x y
vid-same (Named x) (Named y) = same-more x y 2
vid-same (Fresh x) (Fresh y) = same-more x y 3
vid-same Equals Equals = refl
vid-same (Named x) (Fresh y) = other (x + x + 2) (y + y + 3) (λ e. odd-even x y (omega (arith, e)))
vid-same (Fresh x) (Named y) = other (x + x + 3) (y + y + 2) (λ e. odd-even y x (omega (arith, e)))
vid-same (Named x) Equals = other (x + x + 2) 1 (λ e. omega (arith, e))
vid-same (Fresh x) Equals = other (x + x + 3) 1 (λ e. omega (arith, e))
vid-same Equals (Named y) = other 1 (y + y + 2) (λ e. omega (arith, e))
vid-same Equals (Fresh y) = other 1 (y + y + 3) (λ e. omega (arith, e))

module _ {A B : Type 0} (same : B → B → Bool) (key : B → ℕ) (tells : (x y : B) → nat_eq (key x) (key y) ≡ same x y) (part : A → B) where
  in-keys : (x : B) (ys : List A) → is_in nat_eq (key x) (map (λ y. key (part y)) ys) ≡ is_in same x (map part ys)
  in-keys x [] = refl
  in-keys x (y ∷ ys) = ap₂ (λ a b. a || b) (tells x (part y)) (in-keys x ys)

  pub by-keys : (xs : List A) → distinct nat_eq (map (λ x. key (part x)) xs) ≡ distinct same (map part xs)
  by-keys [] = refl
  by-keys (x ∷ xs) = ap₂ (λ a b. not a && b) (in-keys (part x) xs) (by-keys xs)

pub by-labels : {A : Type 0} (label : A → Label) (xs : List A) → distinct nat_eq (map (λ x. label_key (label x)) xs) ≡ distinct same_label (map label xs)
by-labels label xs = by-keys same_label label_key label-same label xs

-- labels that are counted

abbrev pub counted : {A : Type 0} → ℕ → List A → List Label
counted k [] = []
counted k (x ∷ xs) = Number k ∷ counted (suc k) xs

not-counted : {A : Type 0} (k j : ℕ) (xs : List A) → k < j → is_in same_label (Number k) (counted j xs) ≡ false
not-counted k j [] lt = refl
not-counted k j (x ∷ xs) lt = ap₂ (λ a b. a || b) (other k j (λ e. omega (arith, lt, e))) (not-counted k (suc j) xs (omega (arith, lt)))

pub counted-once : {A : Type 0} (k : ℕ) (xs : List A) → distinct same_label (counted k xs) ≡ true
counted-once k [] = refl
counted-once k (x ∷ xs) = ap₂ (λ a b. not a && b) (not-counted k (suc k) xs (omega arith)) (counted-once (suc k) xs)

-- exceptions

abbrev vid-of : ExBind → Vid
vid-of (exn.New p v t) = v
vid-of (exn.Same p v q x) = v

vids-of : (bs : List ExBind) → map vid-of bs ≡ exn_vids (map ex_bind_of bs)
vids-of [] = refl
vids-of (exn.New p v t ∷ bs) = ap (λ l. v ∷ l) (vids-of bs)
vids-of (exn.Same p v q x ∷ bs) = ap (λ l. v ∷ l) (vids-of bs)

keys-of : (bs : List ExBind) → map exn_key bs ≡ map (λ b. vid_key (vid-of b)) bs
keys-of [] = refl
keys-of (exn.New p v t ∷ bs) = ap (λ l. vid_key v ∷ l) (keys-of bs)
keys-of (exn.Same p v q x ∷ bs) = ap (λ l. vid_key v ∷ l) (keys-of bs)

pub exceptions-once : (bs : List ExBind) → distinct nat_eq (map exn_key bs) ≡ distinct same_vid (exn_vids (map ex_bind_of bs))
exceptions-once bs = ap (distinct nat_eq) (keys-of bs) ∙ by-keys same_vid vid_key vid-same vid-of bs ∙ ap (distinct same_vid) (vids-of bs)
