-- What is looked for, from the parts of a phrase to the phrase.
use Rattle.std.proofs.Common.{◌≡◌, ◌<◌, suc, List, [], ◌∷◌, ◌++◌, map, ◌⊎◌, inl, inr, sym, subst, arith}
use Rattle.std.specs.Prelude.{flat_map}
use Rattle.std.specs.List.{Contains}
use Rattle.std.proofs.lemmas.List.Elements.{Contains-append_left, Contains-append_right, Contains-append_cases, Contains-push, Contains-push_cases}
use Rattle.sml_tree.specs.Phrases.{Phrase}
use Rattle.core_rules.specs.Unbound.{own_unbound, Scoped, parts_in}
use Rattle.core_rules.specs.Values.{Env}
use Rattle.name_scopes.specs.Placed.{AnyAt, At, FoundAt, found_to, own_places, place_of, places_of}
use Rattle.name_scopes.specs.Twice.{own_twice}
use Rattle.name_scopes.specs.declared.sought.Sought.{Sought}
use Rattle.name_scopes.specs.declared.sought.What.{What}
use Rattle.name_scopes.specs.declared.sought.What.TheVariants as whats

pub none-in : {A : Type 0} (x : A) → Contains [] x → ⊥
none-in x h = let lt : h.0 < 0 = h.1 in omega (arith, lt)

pub first-or-rest : {A : Type 0} (y : A) (ys : List A) {x : A} → Contains (y ∷ ys) x → (y ≡ x) ⊎ Contains ys x
first-or-rest {A} y ys {x} h = elim (Contains-append_cases (y ∷ []) ys x h) [
  | inl l ↦ elim (Contains-push_cases [] y x l) [ inl n ↦ absurd (none-in x n) | inr e ↦ inl e ]
  | inr r ↦ inr r
]

pub first-in : {A : Type 0} (x : A) (xs : List A) → Contains (x ∷ xs) x
first-in x xs = Contains-append_left (x ∷ []) xs x (Contains-push [] x)

pub rest-in : {A : Type 0} (y : A) (ys : List A) {x : A} → Contains ys x → Contains (y ∷ ys) x
rest-in y ys {x} h = Contains-append_right (y ∷ []) ys x h

-- a list has what a part of it has
pub in-flat : {A B : Type 0} (f : A → List B) (xs : List A) (x : A) (y : B) → Contains xs x → Contains (f x) y → Contains (flat_map f xs) y
in-flat {A} f xs x y h k = go xs h
  where
    go : (xs : List A) → Contains xs x → Contains (flat_map f xs) y
    go [] h = absurd (none-in x h)
    go (z ∷ zs) h = elim (first-or-rest z zs h) [
      | inl e ↦ Contains-append_left (f z) (flat_map f zs) y (subst (λ v. Contains (f v) y) (sym e) k)
      | inr r ↦ Contains-append_right (f z) (flat_map f zs) y (go zs r)
    ]

pub in-map : {A B : Type 0} (f : A → B) (xs : List A) (x : A) → Contains xs x → Contains (map f xs) (f x)
in-map f [] x h = absurd (none-in x h)
in-map f (y ∷ ys) x h = elim (first-or-rest y ys h) [
  | inl e ↦ subst (λ z. Contains (f y ∷ map f ys) (f z)) e (first-in (f y) (map f ys))
  | inr r ↦ rest-in (f y) (map f ys) (in-map f ys x r)
]

own-of : (s : Sought) (e : Env) (x : Phrase) (w : What) → s.what ≡ w → Contains (places_of w e x) s.place → FoundAt s e x
own-of s e x w n h = record { levels = 1; at = Contains-append_left (own_places s e x) _ s.place (subst (λ v. Contains (places_of v e x) s.place) (sym n) h) }

-- an identifier of the phrase itself
pub own-at : (s : Sought) (e : Env) (x : Phrase) → At s (own_unbound e x) → FoundAt s e x
own-at s e x h =
    own-of s e x whats.Unbound h.what (subst (Contains (map place_of (own_unbound e x))) h.place (in-map place_of (own_unbound e x) h.unbound h.is))

pub own-twice-at : (s : Sought) (e : Env) (x : Phrase) → s.what ≡ whats.Twice → Contains (own_twice e x) s.place → FoundAt s e x
own-twice-at s e x n h = own-of s e x whats.Twice n h

-- one of its parts
pub parts-at : (s : Sought) (e : Env) (x : Phrase) → AnyAt s (parts_in e x) → FoundAt s e x
parts-at s e x h = record {
  levels = suc h.at.levels;
  at = Contains-append_right (own_places s e x) _ s.place (in-flat (λ t. found_to s h.at.levels t.scope t.phrase) (parts_in e x) h.scoped s.place h.is h.at.at);
}

pub any-left : (s : Sought) (ss ts : List Scoped) → AnyAt s ss → AnyAt s (ss ++ ts)
any-left s ss ts h = record { scoped = h.scoped; is = Contains-append_left ss ts h.scoped h.is; at = h.at }

pub any-right : (s : Sought) (ss ts : List Scoped) → AnyAt s ts → AnyAt s (ss ++ ts)
any-right s ss ts h = record { scoped = h.scoped; is = Contains-append_right ss ts h.scoped h.is; at = h.at }
