-- What is around a phrase after declarations and then further ones.
use Rattle.std.proofs.Common.{◌≡◌, ◌+◌, ℕ, Bool, true, false, not, [], ◌∷◌, ◌++◌, map, Option, Some, None, nat_eq, refl, sym, ap, ap₂, ◌∙◌, arith}
use Rattle.std.specs.Prelude.{filter, unwrap_or, is_some, cond}
use Rattle.std.specs.Option.{option_or}
use Rattle.std.proofs.lemmas.List.{append_assoc, map-append}
use Rattle.core_rules.specs.Words.{same_vid}
use Rattle.core_rules.specs.Objects.{Env, Map, at, joined, Structures, no_structures, structure, structures_of, structure_map}
use Rattle.core_rules.proofs.LookUps.{Tells, at-joined, nat-tells, vid-tells}
use Rattle.ir_poly.specs.TestsChecked.{Knowns}
use Rattle.core_elab.specs.Scopes.{Scope, empty, scoped, typed_by, inside, plus_scope}
use Rattle.elab_typed.specs.Contexts.{Around, KeptEnv, plus_kept, kept_values, after}

-- maps joined, and then another

module _ {K A : Type 0} (same : K → K → Bool) (tells : Tells same) where
  abbrev kept : Map K A → Map K A → Map K A
  kept f g = map (λ e. (e.0, unwrap_or (at same g e.0) e.1)) f

  abbrev further : Map K A → Map K A → Map K A
  further f g = filter (λ e. not (is_some (at same f e.0))) g

  later-of : (o p : Option A) (a : A) → unwrap_or o (unwrap_or p a) ≡ unwrap_or (option_or o p) a
  later-of None p a = refl
  later-of (Some b) p a = refl

  kept-twice : (f g h : Map K A) → kept (kept f g) h ≡ kept f (joined same g h)
  kept-twice [] g h = refl
  kept-twice (e ∷ f) g h =
      ap₂ (λ a l. (e.0, a) ∷ l) (later-of (at same h e.0) (at same g e.0) e.1 ∙ ap (λ o. unwrap_or o e.1) (sym (at-joined same tells g h e.0))) (kept-twice f g h)

  kept-further : (f g h : Map K A) → kept (further f g) h ≡ further f (kept g h)
  kept-further f [] h = refl
  kept-further f (e ∷ g) h = by (not (is_some (at same f e.0))) (kept-further f g h)
    where
      by : (b : Bool) → kept (further f g) h ≡ further f (kept g h)
          → kept (cond b (e ∷ further f g) (further f g)) h ≡ cond b ((e.0, unwrap_or (at same h e.0) e.1) ∷ further f (kept g h)) (further f (kept g h))
      by true q = ap (λ l. (e.0, unwrap_or (at same h e.0) e.1) ∷ l) q
      by false q = q

  neither : (o p : Option A) → not (is_some (option_or p o)) ≡ cond (not (is_some p)) (not (is_some o)) false
  neither o None = refl
  neither o (Some a) = refl

  further-twice : (f g h : Map K A) → further (joined same f g) h ≡ further f (further g h)
  further-twice f g [] = refl
  further-twice f g (e ∷ h) =
      ap (λ b. cond b (e ∷ further (joined same f g) h) (further (joined same f g) h)) (ap (λ o. not (is_some o)) (at-joined same tells f g e.0) ∙ neither (at same f e.0) (at same g e.0))
      ∙ by (not (is_some (at same g e.0))) (not (is_some (at same f e.0))) refl (further-twice f g h)
    where
      by : (b c : Bool) → not (is_some (at same f e.0)) ≡ c → further (joined same f g) h ≡ further f (further g h)
          → cond (cond b c false) (e ∷ further (joined same f g) h) (further (joined same f g) h) ≡ further f (cond b (e ∷ further g h) (further g h))
      by true true s q = ap (λ l. e ∷ l) q ∙ sym (ap (λ c. cond c (e ∷ further f (further g h)) (further f (further g h))) s)
      by true false s q = q ∙ sym (ap (λ c. cond c (e ∷ further f (further g h)) (further f (further g h))) s)
      by false c s q = q

  filter-append : (p : K × A → Bool) (xs ys : Map K A) → filter p (xs ++ ys) ≡ filter p xs ++ filter p ys
  filter-append p [] ys = refl
  filter-append p (x ∷ xs) ys = by (p x) (filter-append p xs ys)
    where
      by : (b : Bool) → filter p (xs ++ ys) ≡ filter p xs ++ filter p ys → cond b (x ∷ filter p (xs ++ ys)) (filter p (xs ++ ys)) ≡ cond b (x ∷ filter p xs) (filter p xs) ++ filter p ys
      by true q = ap (λ l. x ∷ l) q
      by false q = q

  pub joined-joined : (f g h : Map K A) → joined same (joined same f g) h ≡ joined same f (joined same g h)
  joined-joined f g h =
      ap₂ (λ a b. a ++ b)
      (map-append (λ (e : K × A). (e.0, unwrap_or (at same h e.0) e.1)) (kept f g) (further f g) ∙ ap₂ (λ a b. a ++ b) (kept-twice f g h) (kept-further f g h)) (further-twice f g h)
      ∙ append_assoc (kept f (joined same g h)) (further f (kept g h)) (further f (further g h))
      ∙ ap (λ l. kept f (joined same g h) ++ l) (sym (filter-append (λ e. not (is_some (at same f e.0))) (kept g h) (further g h)))

-- structures

map-of : (ss : Map ℕ Env) → structure_map (structures_of ss) ≡ ss
map-of [] = refl
map-of (s ∷ ss) = ap (λ l. s ∷ l) (map-of ss)

structures-same : (ss : Structures) → structures_of (structure_map ss) ≡ ss
structures-same no_structures = refl
structures-same (structure x e ss) = ap (structure x e) (structures-same ss)

joined-none : {K A : Type 0} (same : K → K → Bool) (m : Map K A) → joined same m [] ≡ m
joined-none same [] = refl
joined-none same (e ∷ m) = ap (λ l. e ∷ l) (joined-none same m)

pub kept-none : (e : KeptEnv) → plus_kept e (kept_values []) ≡ e
kept-none e = λ i. record {
  values = joined-none same_vid e.values i;
  types = joined-none nat_eq e.types i;
  structures = (ap structures_of (joined-none nat_eq (structure_map e.structures)) ∙ structures-same e.structures) i;
}

kept-kept : (e d c : KeptEnv) → plus_kept (plus_kept e d) c ≡ plus_kept e (plus_kept d c)
kept-kept e d c = λ i. record {
  values = joined-joined same_vid vid-tells e.values d.values c.values i;
  types = joined-joined nat_eq nat-tells e.types d.types c.types i;
  structures = (ap (λ m. structures_of (joined nat_eq m (structure_map c.structures))) (map-of (joined nat_eq (structure_map e.structures) (structure_map d.structures)))
      ∙ ap structures_of (joined-joined nat_eq nat-tells (structure_map e.structures) (structure_map d.structures) (structure_map c.structures))
      ∙ ap (λ m. structures_of (joined nat_eq (structure_map e.structures) m)) (sym (map-of (joined nat_eq (structure_map d.structures) (structure_map c.structures))))) i;
}

-- scopes

pub plus-plus : (s r q : Scope) → plus_scope (plus_scope s r) q ≡ plus_scope s (plus_scope r q)
plus-plus s r empty = refl
plus-plus s r (scoped x d q) = ap (scoped x d) (plus-plus s r q)
plus-plus s r (typed_by x c q) = ap (typed_by x c) (plus-plus s r q)
plus-plus s r (inside x c q) = ap (inside x c) (plus-plus s r q)

-- all that is around

pub after-none : (A : Around) → after A 0 A.number (kept_values []) empty A.known ≡ A
after-none A = let e : A.names + 0 ≡ A.names = omega arith in ap₂ (λ (n : ℕ) (d : KeptEnv). record A { names = n; env = d }) e (kept-none A.env)

pub after-after : (A : Around) (n m : ℕ) (number number' : ℕ → ℕ) (e d : KeptEnv) (r q : Scope) (G H : Knowns)
    → after (after A n number e r G) m number' d q H ≡ after A (n + m) number' (plus_kept e d) (plus_scope r q) H
after-after A n m number number' e d r q G H =
    let s : (A.names + n) + m ≡ A.names + (n + m) = omega arith in
    λ i. record A { names = s i; number = number'; env = kept-kept A.env e d i; scope = plus-plus A.scope r q i; known = H }
