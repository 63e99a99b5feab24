-- What was found stands for what is broken.
use Rattle.std.proofs.Common.{◌≡◌, ◌<◌, ◌≤◌, ◌+◌, inl, inr, ℕ, zero, suc, List, [], ◌∷◌, ◌++◌, length, drop, get_or, Option, refl, sym, ap, subst, ◌∙◌, append_assoc, arith}
use Rattle.std.specs.Prelude.{flat_map, IfOk, Result, Ok, Err}
use Rattle.std.specs.List.{Contains}
use Rattle.std.proofs.lemmas.List.{append-nil}
use Rattle.std.proofs.lemmas.List.Elements.{Contains-append_left, Contains-append_right, Contains-append_cases}
use Rattle.mlc_base.specs.declared.place.Place.{Place}
use Rattle.restrictions.specs.Found.{Adds, StandFor, place_in}

pub stand-are : (xs ys : List Place) → xs ≡ ys → StandFor xs ys
stand-are xs ys e = record { some = λ p h. subst (λ l. Contains l p) e h; none = λ n. sym e ∙ n }

pub stand-same : (xs : List Place) → StandFor xs xs
stand-same xs = stand-are xs xs refl

pub stand-then : (xs ys zs : List Place) → StandFor xs ys → StandFor ys zs → StandFor xs zs
stand-then xs ys zs h k = record { some = λ p i. k.some p (h.some p i); none = λ n. k.none (h.none n) }

pub none-left : (xs ys : List Place) → xs ++ ys ≡ [] → xs ≡ []
none-left [] ys e = refl
none-left (x ∷ xs) ys e = cc

pub none-right : (xs ys : List Place) → xs ++ ys ≡ [] → ys ≡ []
none-right [] ys e = e
none-right (x ∷ xs) ys e = cc

both-none : (xs ys : List Place) → xs ≡ [] → ys ≡ [] → xs ++ ys ≡ []
both-none xs ys e f = ap (λ l. l ++ ys) e ∙ f

pub stand-both : (xs ys as_ bs : List Place) → StandFor xs as_ → StandFor ys bs → StandFor (xs ++ ys) (as_ ++ bs)
stand-both xs ys as_ bs h k = record {
  some = λ p i. elim (Contains-append_cases xs ys p i) [
    | inl l ↦ Contains-append_left as_ bs p (h.some p l)
    | inr r ↦ Contains-append_right as_ bs p (k.some p r)
  ];
  none = λ n. both-none as_ bs (h.none (none-left xs ys n)) (k.none (none-right xs ys n));
}

pub stand-swap : (xs ys : List Place) → StandFor (xs ++ ys) (ys ++ xs)
stand-swap xs ys = record {
  some = λ p i. elim (Contains-append_cases xs ys p i) [ inl l ↦ Contains-append_right ys xs p l | inr r ↦ Contains-append_left ys xs p r ];
  none = λ n. both-none ys xs (none-right xs ys n) (none-left xs ys n);
}

-- what is added

pub adds-none : (old places : List Place) → places ≡ [] → Adds old old places
adds-none old places e = record { added = []; is = sym (append-nil old); stands = stand-are [] places (sym e) }

pub adds-are : (old new places : List Place) → new ≡ old ++ places → Adds old new places
adds-are old new places e = record { added = places; is = e; stands = stand-same places }

pub adds-for : (old new xs ys : List Place) → StandFor xs ys → Adds old new xs → Adds old new ys
adds-for old new xs ys h a = record { added = a.added; is = a.is; stands = stand-then a.added xs ys a.stands h }

pub adds-then : (old now new xs ys : List Place) → Adds old now xs → Adds now new ys → Adds old new (xs ++ ys)
adds-then old now new xs ys a b = record {
  added = a.added ++ b.added;
  is = b.is ∙ ap (λ l. l ++ b.added) a.is ∙ append_assoc old a.added b.added;
  stands = stand-both a.added b.added xs ys a.stands b.stands;
}

-- two parts of a whole
pub adds-both : (old now new xs ys all : List Place) → Adds old now xs → Adds now new ys → StandFor (xs ++ ys) all → Adds old new all
adds-both old now new xs ys all a b h = adds-for old new (xs ++ ys) all h (adds-then old now new xs ys a b)

pub if-ok : {A E : Type 0} {P Q : A → Type 0} (r : Result A E) → ((x : A) → P x → Q x) → IfOk r P → IfOk r Q
if-ok (Ok x) f h = f x h
if-ok (Err e) f h = h

pub if-ok-both : {A E : Type 0} {P Q R : A → Type 0} (r : Result A E) → ((x : A) → P x → Q x → R x) → IfOk r P → IfOk r Q → IfOk r R
if-ok-both (Ok x) f h k = f x h k
if-ok-both (Err e) f h k = h

-- places of lists

pub drop-at : {A : Type 0} (xs : List A) (i : ℕ) (x : A) → i < length xs → x ≡ get_or xs i x → drop i xs ≡ x ∷ drop (i + 1) xs
drop-at {A = A} xs i x lt e = let s : suc i ≡ i + 1 = omega arith in go xs i lt ∙ ap (λ n. get_or xs i x ∷ drop n xs) s ∙ ap (λ y. y ∷ drop (i + 1) xs) (sym e)
  where
    go : (xs : List A) (i : ℕ) → i < length xs → drop i xs ≡ get_or xs i x ∷ drop (suc i) xs
    go [] i lt = absurd (omega (arith, lt))
    go (x ∷ xs) zero lt = refl
    go (x ∷ xs) (suc i) lt = go xs i (omega (arith, lt))

pub drop-all : {A : Type 0} (xs : List A) (i : ℕ) → length xs ≤ i → drop i xs ≡ []
drop-all [] zero le = refl
drop-all [] (suc i) le = refl
drop-all (x ∷ xs) zero le = absurd (omega (arith, le))
drop-all (x ∷ xs) (suc i) le = drop-all xs i (omega (arith, le))

-- What the rest of a list will add is what the whole adds: the invariant of a loop.

module _ {A : Type 0} (f : A → List Place) where
  abbrev pub Comes : List A → ℕ → List Place → List Place → Type 0
  Comes xs i old now = (new : List Place) → Adds now new (flat_map f (drop i xs)) → Adds old new (flat_map f xs)

  pub comes-first : (xs : List A) (old : List Place) → Comes xs 0 old old
  comes-first xs old new h = h

  pub comes-next : (xs : List A) (i : ℕ) (x : A) (old now new : List Place) → i < length xs → x ≡ get_or xs i x → Comes xs i old now → Adds now new (f x) → Comes xs (i + 1) old new
  comes-next xs i x old now new lt e h a last b =
      h last (subst (λ l. Adds now last (flat_map f l)) (sym (drop-at xs i x lt e)) (adds-then now new last (f x) (flat_map f (drop (i + 1) xs)) a b))

  pub comes-last : (xs : List A) (i : ℕ) (old now : List Place) → length xs ≤ i → Comes xs i old now → Adds old now (flat_map f xs)
  comes-last xs i old now le h = h now (adds-none now (flat_map f (drop i xs)) (ap (flat_map f) (drop-all xs i le)))

-- what may be there
pub adds-place : (old new : List Place) (o : Option Place) (xs : List Place) → place_in o ≡ xs → new ≡ old ++ place_in o → Adds old new xs
adds-place old new o xs e q = adds-are old new xs (q ∙ ap (λ l. old ++ l) e)

-- parts of any list, one behind the other

pub in-front : {A : Type 0} (now new part rest all : List A) → (now ++ (part ++ rest)) ≡ all → new ≡ now ++ part → new ++ rest ≡ all
in-front now new part rest all e q = ap (λ l. l ++ rest) q ∙ append_assoc now part rest ∙ e

module _ {A B : Type 0} (f : A → List B) where
  pub list-next : (xs : List A) (i : ℕ) (x : A) (now new all : List B) → i < length xs → x ≡ get_or xs i x → now ++ flat_map f (drop i xs) ≡ all → new ≡ now ++ f x
      → new ++ flat_map f (drop (i + 1) xs) ≡ all
  list-next xs i x now new all lt e h q =
      in-front now new (f x) (flat_map f (drop (i + 1) xs)) all (ap (λ l. now ++ flat_map f l) (sym (drop-at xs i x lt e)) ∙ h) q

  pub list-ends : (xs : List A) (i : ℕ) (now all : List B) → length xs ≤ i → now ++ flat_map f (drop i xs) ≡ all → now ≡ all
  list-ends xs i now all le h = sym (append-nil now) ∙ ap (λ l. now ++ flat_map f l) (sym (drop-all xs i le)) ∙ h
