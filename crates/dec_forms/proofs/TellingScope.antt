-- What a context tells behind what comes into scope.
use Rattle.std.proofs.Common.{◌≡◌, ℕ, Bool, true, false, cond, List, [], ◌∷◌, Option, Some, None, nat_eq, refl, sym, ap, ap₂, subst, ◌∙◌, arith}
use Rattle.std.specs.Prelude.{option_map, option_and_then}
use Rattle.std.specs.Option.{option_or}
use Rattle.std.specs.Map.{lookup}
use Rattle.sml_tree.specs.Terminal.{LongVid}
use Rattle.sml_tree.specs.declared.ident.Vid.{Vid}
use Rattle.vid_scope.specs.Entries.{entry_of}
use Rattle.core_rules.specs.Words.{same_vid}
use Rattle.core_rules.specs.Elaborated.{type_in}
use Rattle.core_rules.specs.Objects.{Map, Over, joined, Structures, structures_of, structure_map, TypeStructure}
use Rattle.core_rules.specs.Objects as static
use Rattle.core_rules.proofs.LookUps.{vid-tells, nat-tells, at-joined}
use Rattle.ir_poly.specs.TestsChecked.{Knowns, Known}
use Rattle.ir_poly.specs.TestsChecked as checked
use Rattle.core_elab.specs.Scopes.{denotes_in, inside_in, typed_in, along_scope, long_denotes_in}
use Rattle.elab_typed.specs.Contexts.{given, kept_in, Around, generic}
use Rattle.elab_types.specs.Reading.{entry_of as type_entry_of}
use Rattle.elab_types.specs.declared.scope.TypeEntry.{TypeEntry}
use Rattle.closed_types.specs.of_elab_steps.World.{World, type_of}
use Rattle.exp_forms.specs.of_elab_context.Entries.{contents_at, entry_in, member_in, last_of}
use Rattle.exp_forms.proofs.of_elab_context.Contents.{has_constructors_still, has_contents_still}
use Rattle.exp_forms.specs.of_elab_context.Telling.{Tells, HasConstructors, HasContents, IsFit, kept_of, denotes_of, known_of, function_of}
use Rattle.exp_forms.specs.of_elab_context.declared.context.Context.{Context}
use Rattle.exp_forms.specs.of_elab_context.declared.entry.Entry.{Entry}
use Rattle.exp_forms.specs.of_elab_context.Numbered.{IsNumbered}
use Rattle.exp_forms.proofs.Entering.{number-known}
use Rattle.dec_forms.proofs.Over.{over_after}
use Rattle.dec_forms.proofs.Telling.{entry-among}
use Rattle.dec_forms.specs.Entries.{Adds, last_at, types_onto}
use Rattle.dec_forms.specs.Bringing.{Brings, Effect, past}
use Rattle.dec_forms.proofs.Wider.{Wider, fit-later, kept-later, known-later}

-- type constructors

or-else : {A : Type 0} (o : Option A) (b : Bool) (a : A) (p : Option A) → option_or o (cond b (Some a) p) ≡ option_or (option_or o (cond b (Some a) None)) p
or-else None true a p = refl
or-else None false a p = refl
or-else (Some x) b a p = refl

pub type-among : (s ts : List (ℕ × TypeEntry)) (x : ℕ) → lookup (nat_eq x) (types_onto s ts) ≡ option_or (last_at ts x) (lookup (nat_eq x) s)
type-among s [] x = refl
type-among s (t ∷ ts) x = type-among (t ∷ s) ts x ∙ or-else (last_at ts x) (nat_eq x t.0) t.1 (lookup (nat_eq x) s)

map-or : {A B : Type 0} (f : A → B) (o p : Option A) → option_map f (option_or o p) ≡ option_or (option_map f o) (option_map f p)
map-or f None p = refl
map-or f (Some a) p = refl

pub mapped-none : {A B : Type 0} (f : A → B) (o : Option A) → option_map f o ≡ None → o ≡ None
mapped-none f None e = refl
mapped-none f (Some a) e = cc

-- structures

joined-none : {K V : Type 0} (same : K → K → Bool) (m : Map K V) → joined same m [] ≡ m
joined-none same [] = refl
joined-none same (e ∷ m) = ap (λ l. e ∷ l) (joined-none same m)

structures-same : (ss : Structures) → structures_of (structure_map ss) ≡ ss
structures-same static.no_structures = refl
structures-same (static.structure x e ss) = ap (static.structure x e) (structures-same ss)

pub none-joined : (ss us : Structures) → us ≡ static.no_structures → structures_of (joined nat_eq (structure_map ss) (structure_map us)) ≡ ss
none-joined ss us e =
    ap (λ (z : Structures). structures_of (joined nat_eq (structure_map ss) (structure_map z))) e ∙ ap structures_of (joined-none nat_eq (structure_map ss)) ∙ structures-same ss

-- the one is wider
pub wider_past : (C D : Context) (W : World) (A : Around) (k : ℕ) (es : List (Vid × Entry)) (ts : List (ℕ × TypeEntry)) (m : Effect) → Tells C W A → Adds C D es ts
    → Brings D W A k es ts m → Wider C D W A (past A m)
wider_past C D W A k es ts m t a b = record {
  schemes = a.schemes;
  names = omega arith;
  here = t.names;
  there = b.names;
  number_here = t.number;
  number_there = b.number;
  agree = b.agree;
  parameters = refl;
}

module _ (C D : Context) (W : World) (A : Around) (k : ℕ) (es : List (Vid × Entry)) (ts : List (ℕ × TypeEntry)) (m : Effect) (t : Tells C W A) (n : IsNumbered k C) (a : Adds C D es ts)
    (b : Brings D W A k es ts m) where
  abbrev there : Around
  there = past A m

  wider : Wider C D W A there
  wider = wider_past C D W A k es ts m t a b

  -- short identifiers are new or as before, the others as before

  short-is : (x : Vid) → entry_in D [] x ≡ option_or (last_of es x) (entry_in C [] x)
  short-is x = ap (λ s. entry_of s x) a.values ∙ entry-among C.values es x

  long-is : (q : ℕ) (x : Vid) → entry_in D (q ∷ []) x ≡ entry_in C (q ∷ []) x
  long-is q x = ap₂ (λ s ms. option_and_then (λ k. member_in ms k x) (lookup (nat_eq q) s)) a.structures a.members

  kept-if : (qs : List ℕ) (x : Vid) (o : Option Entry) → entry_in C qs x ≡ o → option_map (kept_of C W) o ≡ option_map (kept_of D W) o
  kept-if qs x None q = refl
  kept-if qs x (Some e) q = ap Some (sym (kept-later C D W A there wider e (t.fit (record { qualifiers = qs; vid = x }) e q)))

  short-entry : (x : Vid) (e : Entry) (P : Entry → Type 0) → entry_in D [] x ≡ Some e → ((d : Entry) → last_of es x ≡ Some d → P d) → (entry_in C [] x ≡ Some e → P e) → P e
  short-entry x e P h new old = by (last_of es x) refl (sym (short-is x) ∙ h)
    where
      by : (o : Option Entry) → last_of es x ≡ o → option_or o (entry_in C [] x) ≡ Some e → P e
      by None q h = old h
      by (Some d) q h = let same : d ≡ e = cc in subst P same (new d q)

  values-at : (qs : List ℕ) (x : Vid) → kept_in there.env (record { qualifiers = qs; vid = x }) ≡ option_map (kept_of D W) (entry_in D qs x)
  values-at [] x =
      at-joined same_vid vid-tells A.env.values m.env.values x ∙ ap₂ option_or (b.values x) (t.values (record { qualifiers = []; vid = x }) ∙ kept-if [] x (entry_in C [] x) refl)
      ∙ sym (map-or (kept_of D W) (last_of es x) (entry_in C [] x)) ∙ ap (option_map (kept_of D W)) (sym (short-is x))
  values-at (q ∷ []) x =
      ap (λ ss. option_map given (static.long_value_in (static.env [] A.env.types ss) (record { qualifiers = q ∷ []; vid = x }))) (none-joined A.env.structures m.env.structures b.structures)
      ∙ t.values (record { qualifiers = q ∷ []; vid = x }) ∙ kept-if (q ∷ []) x (entry_in C (q ∷ []) x) refl ∙ ap (option_map (kept_of D W)) (sym (long-is q x))
  values-at (q ∷ p ∷ qs) x =
      ap (λ ss. option_map given (static.long_value_in (static.env [] A.env.types ss) (record { qualifiers = q ∷ p ∷ qs; vid = x }))) (none-joined A.env.structures m.env.structures b.structures)
      ∙ t.values (record { qualifiers = q ∷ p ∷ qs; vid = x })

  denotes-at : (qs : List ℕ) (x : Vid) → long_denotes_in there.scope (record { qualifiers = qs; vid = x }) ≡ option_map denotes_of (entry_in D qs x)
  denotes-at [] x =
      b.denotes A.scope x ∙ ap (option_or (option_map denotes_of (last_of es x))) (t.denotes (record { qualifiers = []; vid = x }))
      ∙ sym (map-or denotes_of (last_of es x) (entry_in C [] x)) ∙ ap (option_map denotes_of) (sym (short-is x))
  denotes-at (q ∷ []) x =
      ap (λ o. option_and_then (λ d. denotes_in d x) (option_and_then (λ d. along_scope d []) o)) (b.alone A.scope q) ∙ t.denotes (record { qualifiers = q ∷ []; vid = x })
      ∙ ap (option_map denotes_of) (sym (long-is q x))
  denotes-at (q ∷ p ∷ qs) x =
      ap (λ o. option_and_then (λ d. denotes_in d x) (option_and_then (λ d. along_scope d (p ∷ qs)) o)) (b.alone A.scope q)
      ∙ t.denotes (record { qualifiers = q ∷ p ∷ qs; vid = x })

  fit-at : (qs : List ℕ) (x : Vid) (e : Entry) → entry_in D qs x ≡ Some e → IsFit D W there e
  fit-at [] x e h = short-entry x e (IsFit D W there) h (λ d q. b.fit x d q) (λ h. fit-later C D W A there wider e (t.fit (record { qualifiers = []; vid = x }) e h))
  fit-at (q ∷ []) x e h = fit-later C D W A there wider e (t.fit (record { qualifiers = q ∷ []; vid = x }) e (sym (long-is q x) ∙ h))
  fit-at (q ∷ p ∷ qs) x e h = cc

  -- what was known stays known
  old-known : (qs : List ℕ) (x : Vid) (e : Entry) (i : ℕ) (v : Known) → entry_in C qs x ≡ Some e → known_of W there e ≡ Some (i, v) → checked.at m.known i ≡ Some v
  old-known qs x e i v h s =
      let long : LongVid = record { qualifiers = qs; vid = x } in
      let k = sym (known-later C D W A there wider e (t.fit long e h)) ∙ s in
      b.older i (n qs x e h i (number-known W A e i v k)) ∙ t.known long e i v h k

  known-at : (qs : List ℕ) (x : Vid) (e : Entry) (i : ℕ) (v : Known) → entry_in D qs x ≡ Some e → known_of W there e ≡ Some (i, v) → checked.at m.known i ≡ Some v
  known-at [] x e i v h s =
      short-entry x e (λ d. known_of W there d ≡ Some (i, v) → checked.at m.known i ≡ Some v) h (λ d l s. b.new x d i v l s) (λ h s. old-known [] x e i v h s) s
  known-at (q ∷ []) x e i v h s = old-known (q ∷ []) x e i v (sym (long-is q x) ∙ h) s
  known-at (q ∷ p ∷ qs) x e i v h s = cc

  types-at : (qs : List ℕ) (x : ℕ) → option_map (λ y. y.function) (type_in (generic there).env qs x) ≡ option_map (function_of W) (type_entry_of D.types qs x)
  types-at [] x =
      ap (option_map (λ y. y.function)) (at-joined nat_eq nat-tells A.env.types m.env.types x)
      ∙ map-or (λ (y : TypeStructure). y.function) (lookup (nat_eq x) m.env.types) (lookup (nat_eq x) A.env.types)
      ∙ ap₂ option_or (b.types x) (t.types [] x)
      ∙ sym (map-or (function_of W) (last_at ts x) (lookup (nat_eq x) C.types.types))
      ∙ ap (option_map (function_of W)) (sym (ap (lookup (nat_eq x)) a.types ∙ type-among C.types.types ts x))
  types-at (q ∷ qs) x =
      ap (λ ss. option_map (λ y. y.function) (type_in (static.env [] A.env.types ss) (q ∷ qs) x)) (none-joined A.env.structures m.env.structures b.structures)
      ∙ t.types (q ∷ qs) x

  -- a type constructor is new or as before

  type-is : (x : ℕ) → lookup (nat_eq x) there.env.types ≡ option_or (lookup (nat_eq x) m.env.types) (lookup (nat_eq x) A.env.types)
  type-is x = at-joined nat_eq nat-tells A.env.types m.env.types x

  constructors-at : (x : ℕ) (e : TypeEntry) → type_entry_of D.types [] x ≡ Some e → HasConstructors D W there e (lookup (nat_eq x) there.env.types) (typed_in there.scope x)
  constructors-at x e h = by (last_at ts x) refl (sym (ap (lookup (nat_eq x)) a.types ∙ type-among C.types.types ts x) ∙ h)
    where
      by : (o : Option TypeEntry) → last_at ts x ≡ o → option_or o (lookup (nat_eq x) C.types.types) ≡ Some e
          → HasConstructors D W there e (lookup (nat_eq x) there.env.types) (typed_in there.scope x)
      by None l q =
          let none = mapped-none (λ (y : TypeStructure). y.function) (lookup (nat_eq x) m.env.types) (b.types x ∙ ap (option_map (function_of W)) l) in
          has_constructors_still C D W W A there e (lookup (nat_eq x) A.env.types) (lookup (nat_eq x) there.env.types) (typed_in A.scope x) (typed_in there.scope x) a.schemes
          (kept-later C D W A there wider) (fit-later C D W A there wider) (type-is x ∙ ap (λ o. option_or o (lookup (nat_eq x) A.env.types)) none) (b.retyped A.scope x l)
          (t.constructors x e q)
      by (Some d) l q =
          let same : d ≡ e = cc in
          let new = b.constructors A.scope x e (l ∙ ap Some same) in
          subst (λ o. HasConstructors D W there e o (typed_in there.scope x)) (new.is ∙ sym (type-is x ∙ ap (λ o. option_or o (lookup (nat_eq x) A.env.types)) new.is)) new

  structures-at : (q k : ℕ) → lookup (nat_eq q) D.structures ≡ Some k
      → HasContents D q (contents_at D k) (lookup (nat_eq q) (structure_map there.env.structures)) (inside_in there.scope q)
  structures-at q k h =
      has_contents_still C D q (contents_at C k) (contents_at D k) (lookup (nat_eq q) (structure_map A.env.structures)) (lookup (nat_eq q) (structure_map there.env.structures))
      (inside_in A.scope q) (inside_in there.scope q) (ap (λ (z : Context). contents_at z k) a.rest) (long-is q)
      (ap (λ ss. lookup (nat_eq q) (structure_map ss)) (none-joined A.env.structures m.env.structures b.structures)) (b.alone A.scope q)
      (t.structures q k (sym (ap (lookup (nat_eq q)) a.structures) ∙ h))

  pub tells_past : Tells D W there
  tells_past = record {
    names = b.names;
    number = b.number;
    numbers = b.numbers;
    initial = b.initial;
    built = t.built;
    parameters = t.parameters ∙ ap W.parameters (sym a.level);
    values = λ x. values-at x.qualifiers x.vid;
    denotes = λ x. denotes-at x.qualifiers x.vid;
    fit = λ x e h. fit-at x.qualifiers x.vid e h;
    known = λ x e i v h. known-at x.qualifiers x.vid e i v h;
    tyvars = λ x. t.tyvars x ∙ ap (λ l. option_map (type_of W) (lookup (nat_eq x) l)) (sym a.tyvars);
    types = types-at;
    constructors = constructors-at;
    structures = structures-at;
    over = over_after A m.made m.number m.env m.scope m.known t.over b.over;
  }
