-- Lists that are made anew, one element after the other.
use Rattle.std.proofs.Common.{◌≡◌, ◌<◌, ◌≤◌, ℕ, zero, suc, List, [], ◌∷◌, ◌++◌, map, length, take, get_or, Result, Ok, Err, IfOk, refl, sym, ap, ap₂, subst, ◌∙◌, arith}

-- one more element, which was made of the next old one; d is what is read past the end
pub next-made : {A B C : Type 0} (f : A → C) (g : B → C) (i : ℕ) (old : List B) (new : List A) (x : A) (d : B) → map f new ≡ map g (take i old) → i < length old → f x ≡ g (get_or old i d)
    → map f (new ++ x ∷ []) ≡ map g (take (suc i) old)
next-made f g i old new x d e lt h = map-more f new x ∙ ap₂ (λ a b. a ++ b ∷ []) e h ∙ sym (taken g i old d lt)
  where
    map-more : {A C : Type 0} (f : A → C) (new : List A) (x : A) → map f (new ++ x ∷ []) ≡ map f new ++ f x ∷ []
    map-more f [] x = refl
    map-more f (y ∷ new) x = ap (λ l. f y ∷ l) (map-more f new x)

    taken : {B C : Type 0} (g : B → C) (i : ℕ) (old : List B) (d : B) → i < length old → map g (take (suc i) old) ≡ map g (take i old) ++ g (get_or old i d) ∷ []
    taken g i [] d lt = absurd (omega (arith, lt))
    taken g zero (y ∷ old) d lt = refl
    taken g (suc i) (y ∷ old) d lt = ap (λ l. g y ∷ l) (taken g i old d (omega (arith, lt)))

-- all were made
pub all-made : {A B C : Type 0} (f : A → C) (g : B → C) (i : ℕ) (old : List B) (new : List A) → map f new ≡ map g (take i old) → length old ≤ i → map f new ≡ map g old
all-made f g i old new e le = e ∙ ap (map g) (whole i old le)
  where
    whole : {B : Type 0} (i : ℕ) (old : List B) → length old ≤ i → take i old ≡ old
    whole zero [] le = refl
    whole zero (y ∷ old) le = absurd (omega (arith, le))
    whole (suc i) [] le = refl
    whole (suc i) (y ∷ old) le = ap (λ l. y ∷ l) (whole i old (omega (arith, le)))

-- what is so of every answer is so of this one
pub of-ok : {A E : Type 0} (r : Result A E) (x : A) (P : A → Type 0) → IfOk r P → r ≡ Ok x → P x
of-ok r x P h e = subst (λ q. IfOk q P) e h

-- a further fact of every answer
pub on-ok : {A E : Type 0} (r : Result A E) {P S : A → Type 0} → ((x : A) → P x → S x) → IfOk r P → IfOk r S
on-ok (Ok x) f h = f x h
on-ok (Err e) f h = h

pub three : {A B C : Type 0} (a x : A) (b y : B) (c z : C) → a ≡ x → b ≡ y → c ≡ z → ◌≡◌ {A = A × B × C} (a, b, c) (x, y, z)
three a x b y c z e f g = λ i. (e i, f i, g i)
