-- From an element of a list that the code comes to, to the list.
use Rattle.std.proofs.Common.{◌≡◌, ◌<◌, ℕ, Bool, false, List, [], ◌∷◌, map, length, get_or, Option, Some, None, is_some, inl, inr, refl, sym, subst}
use Rattle.std.specs.List.{Contains}
use Rattle.std.proofs.lemmas.List.Elements.{Contains-get_or}
use Rattle.sml_tree.specs.Phrases.{Phrase}
use Rattle.core_rules.specs.Unbound.{Unbound, all_in, unless_bound}
use Rattle.core_rules.specs.Values.{Env}
use Rattle.name_scopes.specs.Placed.{AnyAt, Asks, At, FoundAt, place_of}
use Rattle.name_scopes.specs.declared.sought.Sought.{Sought}
use Rattle.name_scopes.specs.declared.sought.What.TheVariants as whats
use Rattle.name_scopes.proofs.Anywhere.{any-first, any-rest}
use Rattle.name_scopes.proofs.Placing.{first-in, first-or-rest, none-in}

pub among-at : {A : Type 0} (xs : List A) (i : ℕ) (x : A) → i < length xs → x ≡ get_or xs i x → Contains xs x
among-at xs i x lt e = subst (Contains xs) (sym e) (Contains-get_or xs i x lt)

pub any-here : {A : Type 0} (p : Sought) (e : Env) (f : A → Phrase) (xs : List A) (x : A) → Contains xs x → FoundAt p e (f x) → AnyAt p (all_in e (map f xs))
any-here p e f [] x c h = absurd (none-in x c)
any-here p e f (y ∷ ys) x c h = elim (first-or-rest y ys c) [
  | inl s ↦ any-first p _ _ (subst (λ z. FoundAt p e (f z)) (sym s) h)
  | inr r ↦ any-rest p _ _ (any-here p e f ys x r h)
]

pub any-at : {A : Type 0} (p : Sought) (e : Env) (f : A → Phrase) (xs : List A) (i : ℕ) (x : A) → i < length xs → x ≡ get_or xs i x
    → FoundAt p e (f x) → AnyAt p (all_in e (map f xs))
any-at p e f xs i x lt s h = any-here p e f xs x (among-at xs i x lt s) h

-- the list as a loop or a call has it
pub any-same : {A : Type 0} (p : Sought) (e : Env) (f : A → Phrase) (xs ys : List A) → xs ≡ ys → AnyAt p (all_in e (map f xs)) → AnyAt p (all_in e (map f ys))
any-same p e f xs ys s h = subst (λ l. AnyAt p (all_in e (map f l))) s h

-- an identifier that isn't bound, at the place that is looked for
pub unbound-at : {A : Type 0} (p : Sought) (o : Option A) (u : Unbound) → o ≡ None → Asks p whats.Unbound (place_of u) → At p (unless_bound o u)
unbound-at p o u n s = subst (λ z. At p (unless_bound z u)) (sym n) (record { unbound = u; is = first-in u []; place = s.place; what = s.what })

pub none-by : {A : Type 0} (b : Bool) (o : Option A) → b ≡ is_some o → b ≡ false → o ≡ None
none-by b None e n = refl
none-by b (Some a) e n = cc
