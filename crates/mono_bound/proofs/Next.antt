-- Lists that grow by one element of another list.
use Rattle.std.proofs.Common.{◌≡◌, ℕ, ◌+◌, ◌<◌, List, [], ◌∷◌, ◌++◌, map, take, drop, length, get_or, refl, sym, ap, ◌∙◌}
use Rattle.std.proofs.lemmas.List.{append-nil, take_more, drop_more}
use Rattle.mono_bound.specs.declared.bound.Bound.{Bound}
use Rattle.mono_bound.specs.Bound.{Around, joined, fronts, backs}

pub assoc : {A : Type 0} (a b c : List A) → (a ++ b) ++ c ≡ a ++ (b ++ c)
assoc [] b c = refl
assoc (n ∷ a) b c = ap (λ l. n ∷ l) (assoc a b c)

map-last : {A B : Type 0} (g : A → B) (xs : List A) (x : A) → map g (xs ++ x ∷ []) ≡ map g xs ++ g x ∷ []
map-last g [] x = refl
map-last g (y ∷ ys) x = ap (λ l. g y ∷ l) (map-last g ys x)

pub seen : {A B : Type 0} (g : A → B) (xs : List A) (i : ℕ) (x d : A) → i < length xs → x ≡ get_or xs i d → map g (take (i + 1) xs) ≡ map g (take i xs) ++ g x ∷ []
seen g xs i x d lt is = ap (map g) (take_more xs i d lt ∙ ap (λ y. take i xs ++ y ∷ []) (sym is)) ∙ map-last g (take i xs) x

joined-last : (ls : List (List Bound)) (l : List Bound) → joined (ls ++ l ∷ []) ≡ joined ls ++ l
joined-last [] l = append-nil l
joined-last (k ∷ ls) l = ap (λ r. k ++ r) (joined-last ls l) ∙ sym (assoc k (joined ls) l)

fronts-last : (ss : List Around) (s : Around) → fronts (ss ++ s ∷ []) ≡ fronts ss ++ s.front
fronts-last [] s = append-nil s.front
fronts-last (r ∷ ss) s = ap (λ l. r.front ++ l) (fronts-last ss s) ∙ sym (assoc r.front (fronts ss) s.front)

module _ {A : Type 0} (xs : List A) (i : ℕ) (x d : A) (old now new : List Bound) where
  pub joined-next : (f : A → List Bound) → i < length xs → x ≡ get_or xs i d → now ≡ old ++ joined (map f (take i xs)) → new ≡ now ++ f x → new ≡ old ++ joined (map f (take (i + 1) xs))
  joined-next f lt is h k =
      k ∙ ap (λ l. l ++ f x) h ∙ assoc old (joined (map f (take i xs))) (f x)
      ∙ ap (λ l. old ++ l) (sym (joined-last (map f (take i xs)) (f x)) ∙ ap joined (sym (seen f xs i x d lt is)))

  pub fronts-next : (f : A → Around) → i < length xs → x ≡ get_or xs i d → now ≡ old ++ fronts (map f (take i xs)) → new ≡ now ++ (f x).front → new ≡ old ++ fronts (map f (take (i + 1) xs))
  fronts-next f lt is h k =
      k ∙ ap (λ l. l ++ (f x).front) h ∙ assoc old (fronts (map f (take i xs))) (f x).front
      ∙ ap (λ l. old ++ l) (sym (fronts-last (map f (take i xs)) (f x)) ∙ ap fronts (sym (seen f xs i x d lt is)))

  pub backs-next : (f : A → Around) (n : ℕ) → n ≡ i + 1 → i < length xs → x ≡ get_or xs i d → now ≡ old ++ backs (map f (drop n xs)) → new ≡ now ++ (f x).back → new ≡ old ++ backs (map f (drop i xs))
  backs-next f n e lt is h k =
      k ∙ ap (λ l. l ++ (f x).back) (h ∙ ap (λ m. old ++ backs (map f (drop m xs))) e) ∙ assoc old (backs (map f (drop (i + 1) xs))) (f x).back
      ∙ ap (λ l. old ++ backs (map f l)) (ap (λ y. y ∷ drop (i + 1) xs) is ∙ sym (drop_more xs i d lt))
