-- Uses that grow by those of one part more.
use Rattle.std.proofs.Common.{◌≡◌, ℕ, ◌+◌, ◌<◌, List, [], ◌∷◌, ◌++◌, map, take, drop, length, get_or, refl, sym, ap, ◌∙◌}
use Rattle.std.proofs.lemmas.List.{append-nil, take_more, drop_more}
use Rattle.capture_table.specs.Told.{Told, StepTold, FunctionTold, uses_of, steps_use, functions_use}

pub assoc : {A : Type 0} (a b c : List A) → (a ++ b) ++ c ≡ a ++ (b ++ c)
assoc [] b c = refl
assoc (n ∷ a) b c = ap (λ l. n ∷ l) (assoc a b c)

pub map-last : {A B : Type 0} (g : A → B) (xs : List A) (x : A) → map g (xs ++ x ∷ []) ≡ map g xs ++ g x ∷ []
map-last g [] x = refl
map-last g (y ∷ ys) x = ap (λ l. g y ∷ l) (map-last g ys x)

pub seen : {A B : Type 0} (g : A → B) (xs : List A) (i : ℕ) (x d : A) → i < length xs → x ≡ get_or xs i d → map g (take (i + 1) xs) ≡ map g (take i xs) ++ g x ∷ []
seen g xs i x d lt is = ap (map g) (take_more xs i d lt ∙ ap (λ y. take i xs ++ y ∷ []) (sym is)) ∙ map-last g (take i xs) x

-- what is left from here on begins with this
pub ahead : {A B : Type 0} (g : A → B) (xs : List A) (i : ℕ) (x d : A) → i < length xs → x ≡ get_or xs i d → map g (drop i xs) ≡ g x ∷ map g (drop (i + 1) xs)
ahead g xs i x d lt is = ap (map g) (drop_more xs i d lt ∙ ap (λ y. y ∷ drop (i + 1) xs) (sym is))

uses-last : (ts : List Told) (t : Told) → uses_of (ts ++ t ∷ []) ≡ uses_of ts ++ t.uses
uses-last [] t = append-nil t.uses
uses-last (r ∷ ts) t = ap (λ l. r.uses ++ l) (uses-last ts t) ∙ sym (assoc r.uses (uses_of ts) t.uses)

steps-last : (ts : List StepTold) (t : StepTold) → steps_use (ts ++ t ∷ []) ≡ steps_use ts ++ t.uses
steps-last [] t = append-nil t.uses
steps-last (r ∷ ts) t = ap (λ l. r.uses ++ l) (steps-last ts t) ∙ sym (assoc r.uses (steps_use ts) t.uses)

functions-last : (ts : List FunctionTold) (t : FunctionTold) → functions_use (ts ++ t ∷ []) ≡ functions_use ts ++ t.uses
functions-last [] t = append-nil t.uses
functions-last (r ∷ ts) t = ap (λ l. r.uses ++ l) (functions-last ts t) ∙ sym (assoc r.uses (functions_use ts) t.uses)

module _ {A : Type 0} where
  pub uses-next : (f : A → Told) (xs : List A) (i : ℕ) (x d : A) (old now new : List ℕ) → i < length xs → x ≡ get_or xs i d → now ≡ old ++ uses_of (map f (take i xs)) → new ≡ now ++ (f x).uses
      → new ≡ old ++ uses_of (map f (take (i + 1) xs))
  uses-next f xs i x d old now new lt is h k =
      k ∙ ap (λ l. l ++ (f x).uses) h ∙ assoc old (uses_of (map f (take i xs))) (f x).uses ∙ ap (λ l. old ++ l) (sym (uses-last (map f (take i xs)) (f x)) ∙ ap uses_of (sym (seen f xs i x d lt is)))

  pub steps-next : (f : A → StepTold) (xs : List A) (i : ℕ) (x d : A) (old now new : List ℕ) → i < length xs → x ≡ get_or xs i d → now ≡ old ++ steps_use (map f (take i xs)) → new ≡ now ++ (f x).uses
      → new ≡ old ++ steps_use (map f (take (i + 1) xs))
  steps-next f xs i x d old now new lt is h k =
      k ∙ ap (λ l. l ++ (f x).uses) h ∙ assoc old (steps_use (map f (take i xs))) (f x).uses ∙ ap (λ l. old ++ l) (sym (steps-last (map f (take i xs)) (f x)) ∙ ap steps_use (sym (seen f xs i x d lt is)))

  pub functions-next : (f : A → FunctionTold) (xs : List A) (i : ℕ) (x d : A) (old now new : List ℕ) → i < length xs → x ≡ get_or xs i d → now ≡ old ++ functions_use (map f (take i xs)) → new ≡ now ++ (f x).uses
      → new ≡ old ++ functions_use (map f (take (i + 1) xs))
  functions-next f xs i x d old now new lt is h k =
      k ∙ ap (λ l. l ++ (f x).uses) h ∙ assoc old (functions_use (map f (take i xs))) (f x).uses ∙ ap (λ l. old ++ l) (sym (functions-last (map f (take i xs)) (f x)) ∙ ap functions_use (sym (seen f xs i x d lt is)))
