-- Scopes one after the other, and what a context has.
use Rattle.std.proofs.Common.{◌≡◌, ◌<◌, ◌≤◌, ℕ, Bool, true, false, cond, List, [], ◌∷◌, length, Option, Some, None, nat_eq, refl, subst}
use Rattle.std.specs.Prelude.{option_map}
use Rattle.std.specs.Option.{option_or}
use Rattle.std.specs.List.{AllByRecursion}
use Rattle.std.specs.Map.{lookup}
use Rattle.ty_table.specs.TypeAt.{top, type_at}
use Rattle.sml_tree.specs.declared.ident.Vid.{Vid}
use Rattle.core_rules.specs.Objects.{Values}
use Rattle.core_rules.specs.Words.{same_vid}
use Rattle.core_elab.specs.Scopes.{Scope, empty, scoped, typed_by, inside, plus_scope, denotes_in, inside_in, typed_in}
use Rattle.elab_typed.specs.Contexts.{given, given_values}
use Rattle.elab_state.specs.States.{types_in}
use Rattle.elab_state.specs.declared.state.State.{State}
use Rattle.elab_types.specs.declared.scope.TypeEntry.{TypeEntry}
use Rattle.elab_context.specs.Entries.{entry_in}
use Rattle.elab_context.specs.Numbered.{IsNumbered}
use Rattle.elab_context.specs.Telling.{IsContext, IsHeld}
use Rattle.elab_context.specs.declared.context.Context.{Context}
use Rattle.elab_context.specs.declared.entry.Entry.{Entry}
use Rattle.elab_context.specs.declared.entry.Entry.TheVariants.{Constructor, Reference, Initial, Primitive, Raised, Single, Own, General}
use Rattle.dec_forms.specs.Entries.{with_types}

-- options

pub map-or : {A B : Type 0} (f : A → B) (o p : Option A) → option_map f (option_or o p) ≡ option_or (option_map f o) (option_map f p)
map-or f None p = refl
map-or f (Some a) p = refl

-- what is found in a scope behind another

pub denotes-behind : (s r : Scope) (x : Vid) → denotes_in (plus_scope s r) x ≡ option_or (denotes_in r x) (denotes_in s x)
denotes-behind s empty x = refl
denotes-behind s (scoped y d r) x = by (same_vid x y) (denotes-behind s r x)
  where
    by : (b : Bool) → denotes_in (plus_scope s r) x ≡ option_or (denotes_in r x) (denotes_in s x)
        → cond b (Some d) (denotes_in (plus_scope s r) x) ≡ option_or (cond b (Some d) (denotes_in r x)) (denotes_in s x)
    by true h = refl
    by false h = h
denotes-behind s (typed_by y c r) x = denotes-behind s r x
denotes-behind s (inside y c r) x = denotes-behind s r x

pub typed-behind : (s r : Scope) (x : ℕ) → typed_in (plus_scope s r) x ≡ option_or (typed_in r x) (typed_in s x)
typed-behind s empty x = refl
typed-behind s (scoped y d r) x = typed-behind s r x
typed-behind s (typed_by y c r) x = by (nat_eq x y) (typed-behind s r x)
  where
    by : (b : Bool) → typed_in (plus_scope s r) x ≡ option_or (typed_in r x) (typed_in s x)
        → cond b (Some c) (typed_in (plus_scope s r) x) ≡ option_or (cond b (Some c) (typed_in r x)) (typed_in s x)
    by true h = refl
    by false h = h
typed-behind s (inside y c r) x = typed-behind s r x

pub inside-behind : (s r : Scope) (x : ℕ) → inside_in (plus_scope s r) x ≡ option_or (inside_in r x) (inside_in s x)
inside-behind s empty x = refl
inside-behind s (scoped y d r) x = inside-behind s r x
inside-behind s (typed_by y c r) x = inside-behind s r x
inside-behind s (inside y c r) x = by (nat_eq x y) (inside-behind s r x)
  where
    by : (b : Bool) → inside_in (plus_scope s r) x ≡ option_or (inside_in r x) (inside_in s x)
        → cond b (Some c) (inside_in (plus_scope s r) x) ≡ option_or (cond b (Some c) (inside_in r x)) (inside_in s x)
    by true h = refl
    by false h = h

-- closed values

pub given-found : (vs : Values) (x : Vid) → lookup (same_vid x) (given_values vs) ≡ option_map given (lookup (same_vid x) vs)
given-found [] x = refl
given-found (v ∷ vs) x = by (same_vid x v.0) (given-found vs x)
  where
    by : (b : Bool) → lookup (same_vid x) (given_values vs) ≡ option_map given (lookup (same_vid x) vs)
        → cond b (Some (given v.1)) (lookup (same_vid x) (given_values vs)) ≡ option_map given (cond b (Some v.1) (lookup (same_vid x) vs))
    by true h = refl
    by false h = h

-- what a context has

pub found-among : (P : TypeEntry → Type 0) (ts : List (ℕ × TypeEntry)) (x : ℕ) (e : TypeEntry) → AllByRecursion (λ (t : ℕ × TypeEntry). P t.1) ts → lookup (nat_eq x) ts ≡ Some e → P e
found-among P [] x e h q = cc
found-among P (t ∷ ts) x e h q = by (nat_eq x t.0) q (found-among P ts x e h.1)
  where
    by : (b : Bool) → cond b (Some t.1) (lookup (nat_eq x) ts) ≡ Some e → (lookup (nat_eq x) ts ≡ Some e → P e) → P e
    by true s k = let same : t.1 ≡ e = cc in subst P same h.0
    by false s k = k s

pub numbered_typed : (k : ℕ) (C : Context) (ts : List (ℕ × TypeEntry)) → IsNumbered k C → IsNumbered k (with_types C ts)
numbered_typed k C ts n [] x e h = n [] x e h
numbered_typed k C ts n (q ∷ []) x e h = n (q ∷ []) x e h
numbered_typed k C ts n (q ∷ r ∷ qs) x e h = n (q ∷ r ∷ qs) x e h

-- one type constructor more

held-same : (S : State) (C : Context) (ts : List (ℕ × TypeEntry)) (e : Entry) → IsHeld S C e → IsHeld S (with_types C ts) e
held-same S C ts (Constructor s n y) h = h
held-same S C ts (Reference s) h = h
held-same S C ts (Initial s n) h = h
held-same S C ts (Primitive s q) h = h
held-same S C ts (Raised n a) h = h
held-same S C ts (Single t n) h = h
held-same S C ts (Own t n) h = h
held-same S C ts (General l t n o) h = h

pub context_typed : (S : State) (C : Context) (x : ℕ) (e : TypeEntry) → IsContext S C → e.body < length (types_in S) → top (type_at (types_in S) e.body) ≤ e.arity
    → IsContext S (with_types C ((x, e) ∷ []))
context_typed S C x e i held closed = record {
  wide = i.wide;
  deep = i.deep;
  naming = i.naming;
  holds = record { tyvars = i.holds.tyvars; bodies = (held, i.holds.bodies); closed = (closed, i.holds.closed) };
  known = i.known;
  schemes = i.schemes;
  entries = λ qs y d f. held-same S C ((x, e) ∷ []) d (entry-of qs y d f);
  numbered = numbered_typed S.next C ((x, e) ∷ []) i.numbered;
  live = i.live;
  level = i.level;
  tidy = i.tidy;
}
  where
    entry-of : (qs : List ℕ) (y : Vid) (d : Entry) → entry_in (with_types C ((x, e) ∷ [])) qs y ≡ Some d → IsHeld S C d
    entry-of [] y d f = i.entries [] y d f
    entry-of (q ∷ []) y d f = i.entries (q ∷ []) y d f
    entry-of (q ∷ r ∷ qs) y d f = i.entries (q ∷ r ∷ qs) y d f
