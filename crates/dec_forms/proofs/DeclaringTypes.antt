-- The declaration of abbreviations.
use Rattle.std.proofs.Common.{◌≡◌, ◌⊎◌, inl, inr, ◌<◌, ◌≤◌, ◌||◌, ◌+◌, ℕ, Bool, true, false, not, cond, List, [], ◌∷◌, ◌++◌, map, length, Option, Some, None, nat_eq, refl, sym, ap, ap₂, subst, ◌∙◌, arith}
use Rattle.std.specs.Prelude.{option_map, is_some, take, drop}
use Rattle.std.specs.Option.{option_or}
use Rattle.std.specs.List.{AllByRecursion}
use Rattle.std.specs.Map.{lookup}
use Rattle.std.proofs.lemmas.Bool.{and_parts}
use Rattle.mlc_base.specs.declared.place.Place.{Place}
use Rattle.ty_table.specs.TypeAt.{top, type_at}
use Rattle.sml_tree.specs.BareTree.{TypeBind, type_dec}
use Rattle.sml_tree.specs.declared.ident.Vid.{Vid}
use Rattle.core_rules.specs.Choices.{no_choice}
use Rattle.core_rules.specs.Objects.{TypeStructure}
use Rattle.core_rules.specs.Restrictions.{distinct}
use Rattle.core_rules.specs.Words.{is_in, same_vid}
use Rattle.core_rules.proofs.LookUps.{nat-tells}
use Rattle.core_elab.specs.Scopes.{Scope, empty, denotes_in, inside_in, typed_in, plus_scope, types_scope}
use Rattle.prog_tree.specs.declared.tree.Dec.{Dec}
use Rattle.elab_typed.specs.Contexts.{Around, given_values}
use Rattle.elab_typed.specs.Elaborates.{type_elab}
use Rattle.elab_types.specs.declared.scope.SchemeRange.{SchemeRange}
use Rattle.elab_types.specs.declared.scope.TypeEntry.{TypeEntry}
use Rattle.closed_types.specs.of_elab_state.States.{types_in}
use Rattle.closed_types.specs.of_elab_state.declared.state.State.{State}
use Rattle.closed_types.specs.of_elab_steps.World.{World}
use Rattle.exp_forms.specs.of_elab_context.Entries.{constructors_in, constructors_of, entry_in}
use Rattle.exp_forms.specs.of_elab_context.Telling.{HasConstructors, IsContext, IsFit, IsHeld, function_of, kept_entries, scope_of_entries, vids_in}
use Rattle.exp_forms.specs.of_elab_context.declared.context.Context.{Context}
use Rattle.exp_forms.specs.of_elab_context.declared.entry.Entry.{Entry}
use Rattle.exp_forms.specs.of_elab_context.declared.entry.Entry.TheVariants.{Constructor, Reference, Initial, Primitive, Raised, Single, Own, General}
use Rattle.exp_forms.proofs.of_elab_context.Reading.{context_later, numbered_later}
use Rattle.exp_forms.specs.of_elab_context.Numbered.{IsNumbered}
use Rattle.dec_forms.specs.Bringing.{Brings, IsBringing, past}
use Rattle.dec_forms.specs.Entries.{last_at, types_onto, with_types}
use Rattle.dec_forms.specs.declared.brought.Brought.{Brought}
use Rattle.dec_forms.proofs.Plain.{types_add, types_bring, types_effect}
use Rattle.dec_forms.specs.Abbreviations.{AreTypeFunctions, IsClosedEntry, no_schemes, type_map}

-- what is found among them

abbrev bare : World → TypeEntry → TypeStructure
bare W e = record { function = function_of W e; constructors = [] }

structure-found : (W : World) (ts : List (ℕ × TypeEntry)) (x : ℕ) → lookup (nat_eq x) (type_map W ts) ≡ option_map (bare W) (lookup (nat_eq x) ts)
structure-found W [] x = refl
structure-found W (t ∷ ts) x = by (nat_eq x t.0) (structure-found W ts x)
  where
    by : (b : Bool) → lookup (nat_eq x) (type_map W ts) ≡ option_map (bare W) (lookup (nat_eq x) ts)
        → cond b (Some (bare W t.1)) (lookup (nat_eq x) (type_map W ts)) ≡ option_map (bare W) (cond b (Some t.1) (lookup (nat_eq x) ts))
    by true h = refl
    by false h = h

function-found : (W : World) (ts : List (ℕ × TypeEntry)) (x : ℕ) → option_map (λ y. y.function) (lookup (nat_eq x) (type_map W ts)) ≡ option_map (function_of W) (lookup (nat_eq x) ts)
function-found W ts x = ap (option_map (λ y. y.function)) (structure-found W ts x) ∙ by (lookup (nat_eq x) ts)
  where
    by : (o : Option TypeEntry) → option_map (λ y. y.function) (option_map (bare W) o) ≡ option_map (function_of W) o
    by None = refl
    by (Some e) = refl

not-so : (b : Bool) → not b ≡ true → b ≡ false
not-so true h = cc
not-so false h = refl

absent : (ts : List (ℕ × TypeEntry)) (x : ℕ) → is_in nat_eq x (map (λ e. e.0) ts) ≡ false → last_at ts x ≡ None
absent [] x h = refl
absent (t ∷ ts) x h = by (nat_eq x t.0) h (absent ts x)
  where
    by : (c : Bool) → (c || is_in nat_eq x (map (λ e. e.0) ts)) ≡ false → (is_in nat_eq x (map (λ e. e.0) ts) ≡ false → last_at ts x ≡ None)
        → option_or (last_at ts x) (cond c (Some t.1) None) ≡ None
    by true h k = cc
    by false h k = ap (λ o. option_or o None) (k h)

or-none : {A : Type 0} (o : Option A) → option_or o None ≡ o
or-none None = refl
or-none (Some a) = refl

pub last-first : (ts : List (ℕ × TypeEntry)) (x : ℕ) → distinct nat_eq (map (λ e. e.0) ts) ≡ true → last_at ts x ≡ lookup (nat_eq x) ts
last-first [] x d = refl
last-first (t ∷ ts) x d =
    let p = and_parts (not (is_in nat_eq t.0 (map (λ e. e.0) ts))) (distinct nat_eq (map (λ e. e.0) ts)) d in
    by (nat-tells x t.0) (absent ts t.0 (not-so (is_in nat_eq t.0 (map (λ e. e.0) ts)) p.0)) (last-first ts x p.1)
  where
    by : ((nat_eq x t.0 ≡ true) × (x ≡ t.0)) ⊎ (nat_eq x t.0 ≡ false) → last_at ts t.0 ≡ None → last_at ts x ≡ lookup (nat_eq x) ts
        → option_or (last_at ts x) (cond (nat_eq x t.0) (Some t.1) None) ≡ cond (nat_eq x t.0) (Some t.1) (lookup (nat_eq x) ts)
    by (inl q) n h =
        ap₂ (λ o c. option_or o (cond c (Some t.1) None)) (ap (last_at ts) q.1 ∙ n) q.0 ∙ sym (ap (λ c. cond c (Some t.1) (lookup (nat_eq x) ts)) q.0)
    by (inr q) n h =
        ap₂ (λ o c. option_or o (cond c (Some t.1) None)) h q ∙ or-none (lookup (nat_eq x) ts) ∙ sym (ap (λ c. cond c (Some t.1) (lookup (nat_eq x) ts)) q)

-- no identifier comes into scope

denotes-same : (s : Scope) (bs : List TypeBind) (x : Vid) → denotes_in (plus_scope s (types_scope bs)) x ≡ denotes_in s x
denotes-same s [] x = refl
denotes-same s (b ∷ bs) x = denotes-same s bs x

inside-same : (s : Scope) (bs : List TypeBind) (q : ℕ) → inside_in (plus_scope s (types_scope bs)) q ≡ inside_in s q
inside-same s [] q = refl
inside-same s (b ∷ bs) q = inside-same s bs q

-- type constructors come into scope, with no constructors

either : (b c : Bool) (o p : Option Scope) → cond (b || c) o p ≡ cond b o (cond c o p)
either true c o p = refl
either false c o p = refl

typed-among : (s : Scope) (bs : List TypeBind) (x : ℕ)
    → typed_in (plus_scope s (types_scope bs)) x ≡ cond (is_in nat_eq x (map (λ b. b.tycon) bs)) (Some empty) (typed_in s x)
typed-among s [] x = refl
typed-among s (b ∷ bs) x =
    ap (cond (nat_eq x b.tycon) (Some empty)) (typed-among s bs x) ∙ sym (either (nat_eq x b.tycon) (is_in nat_eq x (map (λ b. b.tycon) bs)) (Some empty) (typed_in s x))

in-last : (ts : List (ℕ × TypeEntry)) (x : ℕ) → is_in nat_eq x (map (λ e. e.0) ts) ≡ is_some (last_at ts x)
in-last [] x = refl
in-last (t ∷ ts) x = ap (λ c. nat_eq x t.0 || c) (in-last ts x) ∙ by (nat_eq x t.0) (last_at ts x)
  where
    by : (b : Bool) (o : Option TypeEntry) → (b || is_some o) ≡ is_some (option_or o (cond b (Some t.1) None))
    by true None = refl
    by true (Some d) = refl
    by false None = refl
    by false (Some d) = refl

typed-last : (s : Scope) (bs : List TypeBind) (ts : List (ℕ × TypeEntry)) (x : ℕ) → map (λ e. e.0) ts ≡ map (λ b. b.tycon) bs
    → typed_in (plus_scope s (types_scope bs)) x ≡ cond (is_some (last_at ts x)) (Some empty) (typed_in s x)
typed-last s bs ts x e = typed-among s bs x ∙ ap (λ c. cond c (Some empty) (typed_in s x)) (ap (is_in nat_eq x) (sym e) ∙ in-last ts x)

-- a type constructor that has no constructors, told as such
pub bare_constructors : (C : Context) (W : World) (A : Around) (e : TypeEntry) (y : TypeStructure) (o : Option TypeStructure) (r : Option Scope) → e.constructors ≡ no_schemes
    → y.constructors ≡ [] → o ≡ Some y → r ≡ Some empty → HasConstructors C W A e o r
bare_constructors C W A e y o r n p is scope =
    let none : constructors_of C e ≡ [] = ap (λ (z : SchemeRange). constructors_in z.first (take z.count (drop z.first C.schemes.items))) n in
    record {
      structure = y;
      is = is;
      values = ap given_values p ∙ sym (ap (kept_entries C W) none);
      scopes = scope ∙ sym (ap (λ l. Some (scope_of_entries l)) none);
      once = ap (λ l. distinct same_vid (vids_in l)) none;
      fit = subst (AllByRecursion (λ c. IsFit C W A c.1)) (sym none) tt;
      within = subst (λ (z : SchemeRange). z.first + z.count ≤ length C.schemes.items) (sym n) (omega arith);
    }

entry-among : (P : ℕ × TypeEntry → Type 0) (Q : TypeEntry → Type 0) (ts : List (ℕ × TypeEntry)) (x : ℕ) (e : TypeEntry) → ((t : ℕ × TypeEntry) → P t → Q t.1) → AllByRecursion P ts
    → lookup (nat_eq x) ts ≡ Some e → Q e
entry-among P Q [] x e f h q = cc
entry-among P Q (t ∷ ts) x e f h q = by (nat_eq x t.0) q (entry-among P Q ts x e f h.1)
  where
    by : (b : Bool) → cond b (Some t.1) (lookup (nat_eq x) ts) ≡ Some e → (lookup (nat_eq x) ts ≡ Some e → Q e) → Q e
    by true q k = let same : t.1 ≡ e = cc in subst Q same (f t h.0)
    by false q k = k q

append-nil : {A : Type 0} (xs : List A) → xs ≡ xs ++ []
append-nil [] = refl
append-nil (x ∷ xs) = ap (λ l. x ∷ l) (append-nil xs)

numbered-types : (k : ℕ) (C : Context) (ts : List (ℕ × TypeEntry)) → IsNumbered k C → IsNumbered k (with_types C ts)
numbered-types k C ts n [] x e h = n [] x e h
numbered-types k C ts n (q ∷ []) x e h = n (q ∷ []) x e h
numbered-types k C ts n (q ∷ r ∷ qs) x e h = n (q ∷ r ∷ qs) x e h

pub types_declared : (S T : State) (C D : Context) (p : Place) (bs : List TypeBind) (ts : List (ℕ × TypeEntry)) (decs : List Dec) (old new : Brought) → AreTypeFunctions S C.types bs T ts
    → distinct nat_eq (map (λ e. e.0) ts) ≡ true → D ≡ with_types C ts → decs ≡ [] → new.types.items ≡ old.types.items ++ ts → new.values.items ≡ old.values.items
    → IsBringing S C (type_dec p bs) T D decs old new
types_declared S T C D p bs ts decs old new h d q ed et ev = subst (λ l. IsBringing S C (type_dec p bs) T D l old new) (sym ed) (record {
  values = [];
  types = ts;
  all_values = ev ∙ append-nil old.values.items;
  all_types = et;
  adds = types_add C D ts q;
  grows = h.grows;
  numbered = λ n. subst (IsNumbered T.next) (sym q) (numbered-types T.next C ts (numbered_later S.next T.next C h.grows.next n));
  gives = λ n W c A t.
      let e = h.gives W c C A refl t in
      record {
        effect = types_effect A (type_map W ts) (types_scope bs);
        choices = no_choice;
        elab = λ i le. record { next = i; most = let m = h.grows.next in omega (arith, le, m); elab = type_elab p e };
        brings =
            subst (λ D. Brings D W A S.next [] ts (types_effect A (type_map W ts) (types_scope bs))) (sym q)
            (types_bring C W A S.next ts (type_map W ts) (types_scope bs) t (λ x. function-found W ts x ∙ ap (option_map (function_of W)) (sym (last-first ts x d)))
            (λ s x. denotes-same s bs x) (λ s q. inside-same s bs q)
            (λ s x l. typed-last s bs ts x h.tycons ∙ ap (λ o. cond (is_some o) (Some empty) (typed_in s x)) l)
            (λ s x e l.
            let found = sym (last-first ts x d) ∙ l in
            bare_constructors (with_types C ts) W (past A (types_effect A (type_map W ts) (types_scope bs))) e (bare W e) (lookup (nat_eq x) (type_map W ts))
            (typed_in (plus_scope s (types_scope bs)) x)
            (entry-among (λ t. IsClosedEntry T t.1) (λ e. e.constructors ≡ no_schemes) ts x e (λ t c. c.bare) h.entries found) refl
            (structure-found W ts x ∙ ap (option_map (bare W)) found) (typed-last s bs ts x h.tycons ∙ ap (λ o. cond (is_some o) (Some empty) (typed_in s x)) l)));
      };
})

-- the context with them

all-onto : (P : ℕ × TypeEntry → Type 0) (s ts : List (ℕ × TypeEntry)) → AllByRecursion P s → AllByRecursion P ts → AllByRecursion P (types_onto s ts)
all-onto P s [] h k = h
all-onto P s (t ∷ ts) h k = all-onto P (t ∷ s) ts (k.0, h) k.1

all-of : {P Q : ℕ × TypeEntry → Type 0} (ts : List (ℕ × TypeEntry)) → ((t : ℕ × TypeEntry) → P t → Q t) → AllByRecursion P ts → AllByRecursion Q ts
all-of [] f h = tt
all-of (t ∷ ts) f h = (f t h.0, all-of ts f h.1)

held-same : (S : State) (C : Context) (ts : List (ℕ × TypeEntry)) (e : Entry) → IsHeld S C e → IsHeld S (with_types C ts) e
held-same S C ts (Constructor s n y) h = h
held-same S C ts (Reference s) h = h
held-same S C ts (Initial s n) h = h
held-same S C ts (Primitive s q) h = h
held-same S C ts (Raised n a) h = h
held-same S C ts (Single t n) h = h
held-same S C ts (Own t n) h = h
held-same S C ts (General l t n o) h = h

pub context_with_types : (S : State) (C D : Context) (ts : List (ℕ × TypeEntry)) → IsContext S C → AllByRecursion (λ e. IsClosedEntry S e.1) ts → D ≡ with_types C ts → IsContext S D
context_with_types S C D ts i h q = subst (IsContext S) (sym q) (record {
  wide = i.wide;
  deep = i.deep;
  naming = i.naming;
  holds = record {
    tyvars = i.holds.tyvars;
    bodies =
        all-onto (λ (b : ℕ × TypeEntry). b.1.body < length (types_in S)) C.types.types ts i.holds.bodies (all-of ts (λ (t : ℕ × TypeEntry) (c : IsClosedEntry S t.1). c.held) h);
    closed =
        all-onto (λ (b : ℕ × TypeEntry). top (type_at (types_in S) b.1.body) ≤ b.1.arity) C.types.types ts i.holds.closed
        (all-of ts (λ (t : ℕ × TypeEntry) (c : IsClosedEntry S t.1). c.closed) h);
  };
  known = i.known;
  schemes = i.schemes;
  entries = λ qs x e f. held-same S C ts e (entry-of qs x e f);
  numbered = numbered-types S.next C ts i.numbered;
  live = i.live;
  level = i.level;
  tidy = i.tidy;
})
  where
    entry-of : (qs : List ℕ) (x : Vid) (e : Entry) → entry_in (with_types C ts) qs x ≡ Some e → IsHeld S C e
    entry-of [] x e f = i.entries [] x e f
    entry-of (r ∷ []) x e f = i.entries (r ∷ []) x e f
    entry-of (r ∷ s ∷ qs) x e f = i.entries (r ∷ s ∷ qs) x e f

pub context_of_types : (S T : State) (C D : Context) (bs : List TypeBind) (ts : List (ℕ × TypeEntry)) → IsContext S C → AreTypeFunctions S C.types bs T ts → D ≡ with_types C ts → IsContext T D
context_of_types S T C D bs ts i h q = context_with_types T C D ts (context_later S T C h.grows i) h.entries q
