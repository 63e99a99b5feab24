-- One of some phrases that stand in one environment.
use Rattle.std.proofs.Common.{◌≡◌, List, [], ◌∷◌, map, ◌⊎◌, inl, inr, sym, subst}
use Rattle.std.specs.List.{Contains}
use Rattle.sml_tree.specs.Phrases.{Phrase}
use Rattle.core_rules.specs.Unbound.{Scoped, all_in, parts_in}
use Rattle.core_rules.specs.Values.{Env}
use Rattle.name_scopes.specs.Placed.{AnyAt, FoundAt}
use Rattle.name_scopes.specs.declared.sought.Sought.{Sought}
use Rattle.name_scopes.proofs.Placing.{first-in, first-or-rest, none-in, parts-at, rest-in}

pub any-first : (p : Sought) (s : Scoped) (ss : List Scoped) → FoundAt p s.scope s.phrase → AnyAt p (s ∷ ss)
any-first p s ss h = record { scoped = s; is = first-in s ss; at = h }

pub any-rest : (p : Sought) (s : Scoped) (ss : List Scoped) → AnyAt p ss → AnyAt p (s ∷ ss)
any-rest p s ss h = record { scoped = h.scoped; is = rest-in s ss h.is; at = h.at }

pub any-cases : (p : Sought) (s : Scoped) (ss : List Scoped) → AnyAt p (s ∷ ss) → FoundAt p s.scope s.phrase ⊎ AnyAt p ss
any-cases p s ss h = elim (first-or-rest s ss h.is) [
  | inl e ↦ inl (subst (λ z. FoundAt p z.scope z.phrase) (sym e) h.at)
  | inr r ↦ inr (record { scoped = h.scoped; is = r; at = h.at })
]

pub any-none : {C : Type 0} (p : Sought) → AnyAt p [] → C
any-none p h = absurd (none-in h.scoped h.is)

-- what follows wherever it is
pub any-of : {A C : Type 0} (p : Sought) (e : Env) (f : A → Phrase) (xs : List A)
    → ((x : A) → Contains xs x → FoundAt p e (f x) → C) → AnyAt p (all_in e (map f xs)) → C
any-of p e f [] k h = any-none p h
any-of p e f (x ∷ xs) k h = elim (any-cases p _ _ h) [
  | inl a ↦ k x (first-in x xs) a
  | inr r ↦ any-of p e f xs (λ y. λ c. k y (rest-in x xs c)) r
]

-- a phrase, and its parts, as they are written otherwise

pub standing : (p : Sought) (e : Env) (x y : Phrase) → x ≡ y → FoundAt p e y → FoundAt p e x
standing p e x y s h = subst (FoundAt p e) (sym s) h

pub in-parts : (p : Sought) (e : Env) (x y : Phrase) (ys zs : List Phrase) → x ≡ y → parts_in e y ≡ all_in e ys → ys ≡ zs → AnyAt p (all_in e zs) → FoundAt p e x
in-parts p e x y ys zs s t same h =
    standing p e x y s (parts-at p e y (subst (AnyAt p) (sym t) (subst (λ l. AnyAt p (all_in e l)) (sym same) h)))
