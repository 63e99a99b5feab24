-- Functions that are put behind others, one after the other.
use Rattle.std.proofs.Common.{◌≡◌, ℕ, zero, suc, ◌+◌, ◌<◌, ◌≤◌, List, [], ◌∷◌, ◌++◌, map, take, drop, length, get_or, refl, sym, ap, ap₂, ◌∙◌, arith}
use Rattle.std.proofs.lemmas.List.{take_more, drop_more}
use Rattle.ir_first.specs.Tree as out
use Rattle.first_tree.specs.declared.tree.Fun.{Fun}
use Rattle.first_tree.specs.TreeOf.{fun_of}
use Rattle.closure_bodies.proofs.of_closure_parts.Putting.{map-last, all-before, all-behind}
use Rattle.closure_first.specs.Codes.{Before, Adds, in_order, last_first}

behind-last : (xs : List out.Fun) (y : out.Fun) (cs : List out.Fun) → (xs ++ y ∷ []) ++ cs ≡ xs ++ y ∷ cs
behind-last [] y cs = refl
behind-last (x ∷ xs) y cs = ap (λ l. x ∷ l) (behind-last xs y cs)

pub adds-one : (old new : List Fun) (f : Fun) (r : out.Fun) → new ≡ old ++ f ∷ [] → fun_of f ≡ r → Adds old new (λ cs. r ∷ cs)
adds-one old new f r n h cs =
    ap (λ y. map fun_of old ++ y ∷ cs) (sym h) ∙ sym (behind-last (map fun_of old) (fun_of f) cs) ∙ ap (λ l. l ++ cs) (sym (ap (map fun_of) n ∙ map-last fun_of old f))

pub adds-none : (old : List Fun) (p : Before) → ((cs : List out.Fun) → p cs ≡ cs) → Adds old old p
adds-none old p h cs = ap (λ l. map fun_of old ++ l) (h cs)

pub adds-then : (old now new : List Fun) (p q : Before) → Adds old now p → Adds now new q → Adds old new (λ cs. p (q cs))
adds-then old now new p q h k cs = h (q cs) ∙ k cs

pub adds-as : (old new : List Fun) (p q : Before) → ((cs : List out.Fun) → q cs ≡ p cs) → Adds old new p → Adds old new q
adds-as old new p q h k cs = ap (λ l. map fun_of old ++ l) (h cs) ∙ k cs

ahead : {A : Type 0} (xs : List A) (i : ℕ) (x d : A) → i < length xs → x ≡ get_or xs i d → drop i xs ≡ x ∷ drop (i + 1) xs
ahead xs i x d lt is = drop_more xs i d lt ∙ ap (λ y. y ∷ drop (i + 1) xs) (sym is)

last-last : {A : Type 0} (f : A → Before) (xs : List A) (x : A) (cs : List out.Fun) → last_first f (xs ++ x ∷ []) cs ≡ f x (last_first f xs cs)
last-last f [] x cs = refl
last-last f (y ∷ xs) x cs = last-last f xs x (f y cs)

module _ {A : Type 0} (f : A → Before) (xs : List A) (old : List Fun) where
  -- one after the other

  abbrev pub SoFar : (now : List Fun) (i : ℕ) → Type 0
  SoFar now i = (cs : List out.Fun) → map fun_of old ++ in_order f xs cs ≡ map fun_of now ++ in_order f (drop i xs) cs

  pub order-next : (i : ℕ) (x d : A) (now new : List Fun) → i < length xs → x ≡ get_or xs i d → Adds now new (f x) → SoFar now i → SoFar new (i + 1)
  order-next i x d now new lt is h inv cs = inv cs ∙ ap (λ l. map fun_of now ++ in_order f l cs) (ahead xs i x d lt is) ∙ h (in_order f (drop (i + 1) xs) cs)

  pub order-done : (i : ℕ) (now : List Fun) → length xs ≤ i → SoFar now i → Adds old now (in_order f xs)
  order-done i now le inv cs = inv cs ∙ ap (λ l. map fun_of now ++ in_order f l cs) (all-behind xs i le)

  -- the last first

  abbrev pub BackTo : (now : List Fun) (n : ℕ) → Type 0
  BackTo now n = (cs : List out.Fun) → map fun_of old ++ last_first f xs cs ≡ map fun_of now ++ last_first f (take n xs) cs

  pub back-first : (now : List Fun) (n : ℕ) → now ≡ old → length xs ≤ n → BackTo now n
  back-first now n k le cs = ap₂ (λ l ys. map fun_of l ++ last_first f ys cs) (sym k) (sym (all-before xs n le))

  pub back-next : (n i : ℕ) (x d : A) (now new : List Fun) → n ≡ i + 1 → i < length xs → x ≡ get_or xs i d → Adds now new (f x) → BackTo now n → BackTo new i
  back-next n i x d now new k lt is h inv cs =
      inv cs ∙ ap (λ j. map fun_of now ++ last_first f (take j xs) cs) k
      ∙ ap (λ l. map fun_of now ++ last_first f l cs) (take_more xs i d lt ∙ ap (λ y. take i xs ++ y ∷ []) (sym is))
      ∙ ap (λ l. map fun_of now ++ l) (last-last f (take i xs) x cs) ∙ h (last_first f (take i xs) cs)

  pub back-done : (now : List Fun) (n : ℕ) → n ≤ 0 → BackTo now n → Adds old now (last_first f xs)
  back-done now zero le inv = inv
  back-done now (suc n) le inv = absurd (omega (arith, le))
