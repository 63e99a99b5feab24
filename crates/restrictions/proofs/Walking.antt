-- Walks, one part after the other.
use Rattle.std.proofs.Common.{◌≡◌, ◌<◌, ◌≤◌, ◌+◌, ◌-◌, ℕ, List, [], ◌∷◌, ◌++◌, length, drop, get_or, refl, sym, ap, ap₂, subst, ◌∙◌, arith}
use Rattle.std.specs.Prelude.{flat_map}
use Rattle.mlc_base.specs.declared.place.Place.{Place}
use Rattle.restrictions.specs.Found.{Adds, StandFor, Walks, names_in, noted_onto}
use Rattle.restrictions.specs.declared.walk.Walk.{Walk}
use Rattle.restrictions.proofs.Standing.{adds-for, adds-none, adds-then, drop-all, drop-at}

pub walks-none : (old : Walk) (places : List Place) → places ≡ [] → Walks old old places
walks-none old places e = record { found = adds-none old.found.items places e; around = refl }

pub walks-for : (old new : Walk) (xs ys : List Place) → StandFor xs ys → Walks old new xs → Walks old new ys
walks-for old new xs ys h w = record { found = adds-for old.found.items new.found.items xs ys h w.found; around = w.around }

pub walks-then : (old now new : Walk) (xs ys : List Place) → Walks old now xs → Walks now new ys → Walks old new (xs ++ ys)
walks-then old now new xs ys a b = record {
  found = adds-then old.found.items now.found.items new.found.items xs ys a.found b.found;
  around = b.around ∙ a.around;
}

-- what is found in types, patterns or bindings
pub walks-found : (old new : Walk) (xs : List Place) → new.around ≡ old.around → Adds old.found.items new.found.items xs → Walks old new xs
walks-found old new xs e a = record { found = a; around = e }

-- two parts of a whole: the second is in the scope that the first one left
pub walks-two : (old now new : Walk) (xs ys all : List Place) → Walks old now xs → Walks now new ys → (now.around ≡ old.around → StandFor (xs ++ ys) all) → Walks old new all
walks-two old now new xs ys all a b h = walks-for old new (xs ++ ys) all (h a.around) (walks-then old now new xs ys a b)

-- along a list

module _ {A : Type 0} (g : List ℕ → A → List Place) where
  pub record Goes (xs : List A) (i : ℕ) (old now : Walk) : Type 0 where
    pub around : now.around ≡ old.around
    pub rest : (new : Walk) → Walks now new (flat_map (g (names_in old.around)) (drop i xs)) → Walks old new (flat_map (g (names_in old.around)) xs)

  pub goes-first : (xs : List A) (old : Walk) → Goes xs 0 old old
  goes-first xs old = record { around = refl; rest = λ new h. h }

  pub goes-next : (xs : List A) (i : ℕ) (x : A) (old now new : Walk) → i < length xs → x ≡ get_or xs i x → Goes xs i old now → Walks now new (g (names_in now.around) x) → Goes xs (i + 1) old new
  goes-next xs i x old now new lt e h a =
      let s = names_in old.around in
      let b : Walks now new (g s x) = subst (λ (l : List ℕ). Walks now new (g l x)) (ap names_in h.around) a in
      record {
        around = a.around ∙ h.around;
        rest = λ last w.
            h.rest last (subst (λ l. Walks now last (flat_map (g s) l)) (sym (drop-at xs i x lt e)) (walks-then now new last (g s x) (flat_map (g s) (drop (i + 1) xs)) b w));
      }

  pub goes-last : (xs : List A) (i : ℕ) (old now : Walk) → length xs ≤ i → Goes xs i old now → Walks old now (flat_map (g (names_in old.around)) xs)
  goes-last xs i old now le h = h.rest now (walks-none now (flat_map (g (names_in old.around)) (drop i xs)) (ap (flat_map (g (names_in old.around))) (drop-all xs i le)))

-- into a scope and out of it again

pub names-onto : (ks : List ℕ) (around : List (ℕ × ℕ)) → names_in (noted_onto ks around) ≡ ks ++ names_in around
names-onto [] around = refl
names-onto (k ∷ ks) around = ap (λ l. k ∷ l) (names-onto ks around)

-- what was brought into scope is as much as stands before the rest
pub left-again : (ks : List ℕ) (around : List (ℕ × ℕ)) → drop (length (noted_onto ks around) - length around) (noted_onto ks around) ≡ around
left-again ks around = let m = number ks in ap (λ n. drop n (noted_onto ks around)) (omega (arith, m)) ∙ go ks
  where
    number : (ks : List ℕ) → length (noted_onto ks around) ≡ length ks + length around
    number [] = omega arith
    number (k ∷ ks) = let m = number ks in omega (arith, m)

    go : (ks : List ℕ) → drop (length ks) (noted_onto ks around) ≡ around
    go [] = refl
    go (k ∷ ks) = go ks

-- a walk in a scope of its own, and what is found behind it
pub walks-inside : (old inner last new : Walk) (ks : List ℕ) (m : ℕ) (xs ys all : List Place) → inner.around ≡ noted_onto ks old.around → inner.found.items ≡ old.found.items
    → Walks inner last xs → m ≡ length old.around → new.around ≡ drop (length last.around - m) last.around → Adds last.found.items new.found.items ys → StandFor (xs ++ ys) all
    → Walks old new all
walks-inside old inner last new ks m xs ys all e f w n g a s = record {
  found =
      adds-for old.found.items new.found.items (xs ++ ys) all s
      (adds-then old.found.items last.found.items new.found.items xs ys (subst (λ l. Adds l last.found.items xs) f w.found) a);
  around = g ∙ ap₂ (λ (l : List (ℕ × ℕ)) k. drop (length l - k) l) (w.around ∙ e) n ∙ left-again ks old.around;
}
