-- What a datatype replication brings.
use Rattle.std.proofs.Common.{◌≡◌, ◌⊎◌, inl, inr, ◌<◌, ◌≤◌, ◌+◌, ℕ, zero, suc, Bool, true, false, cond, List, [], ◌∷◌, ◌++◌, length, take, drop, Option, Some, None, nat_eq, refl, sym, ap, subst, ◌∙◌, arith}
use Rattle.std.specs.Prelude.{option_map}
use Rattle.std.specs.Option.{option_or}
use Rattle.std.specs.List.{AllByRecursion}
use Rattle.std.specs.Map.{lookup}
use Rattle.mlc_base.specs.declared.place.Place.{Place}
use Rattle.ty_table.specs.TypeAt.{top, type_at}
use Rattle.sml_tree.specs.BareTree.{replicate_dec}
use Rattle.sml_tree.specs.BareTree as bare
use Rattle.sml_tree.specs.declared.ident.Vid.{Vid}
use Rattle.core_rules.specs.Choices.{no_choice}
use Rattle.core_rules.specs.Objects.{at, env, no_structures, TypeStructure}
use Rattle.core_rules.specs.Words.{same_vid}
use Rattle.ir_poly.specs.Prog as prog
use Rattle.core_elab.specs.Scopes.{Scope, denotes_in, plus_scope, typed_by, typed_in}
use Rattle.prog_tree.specs.declared.tree.Dec.{Dec}
use Rattle.elab_typed.specs.Contexts.{Around, given_values}
use Rattle.elab_typed.specs.Elaborates.{replicate_elab}
use Rattle.elab_typed.proofs.Under.{kept-env-under}
use Rattle.elab_types.specs.Reading.{entry_of as type_entry_of}
use Rattle.elab_types.specs.declared.scope.TypeEntry.{TypeEntry}
use Rattle.elab_state.specs.States.{types_in}
use Rattle.elab_state.specs.declared.state.State.{State}
use Rattle.elab_steps.specs.World.{World}
use Rattle.elab_steps.proofs.Changing.{begins-same}
use Rattle.elab_steps.proofs.Growing.{grows_same}
use Rattle.elab_context.specs.Entries.{constructor_entry, constructors_in, constructors_of, last_of}
use Rattle.elab_context.specs.Numbered.{IsBelowIf, IsNumbered, number_of}
use Rattle.elab_context.specs.Telling.{HasConstructors, IsContext, IsFit, IsHeld, Tells, denotes_of, function_of, kept_of, scope_of_entries}
use Rattle.elab_context.specs.declared.context.Context.{Context}
use Rattle.elab_context.specs.declared.entry.Built.{Built}
use Rattle.elab_context.specs.declared.entry.Built.TheVariants.{Ref, Declared}
use Rattle.elab_context.specs.declared.entry.Entry.{Entry}
use Rattle.elab_context.specs.declared.entry.Scheme.{Scheme}
use Rattle.elab_context.proofs.Contents.{has_constructors_still}
use Rattle.dec_forms.proofs.of_exp_forms.Entering.{context_with, number-known}
use Rattle.dec_forms.specs.Bringing.{Brings, Effect, ElaboratesWith, IsBringing, past}
use Rattle.dec_forms.specs.Entries.{Adds, last_at, with_types}
use Rattle.dec_forms.specs.Telling.{with_all}
use Rattle.dec_forms.specs.declared.brought.Brought.{Brought}
use Rattle.dec_forms.proofs.Listed.{alone-listed, all-map, denotes-listed, kept-listed, last-among, last-first, untyped-listed}
use Rattle.dec_forms.proofs.Plain.{numbered_values, wider_same}
use Rattle.dec_forms.proofs.Wider.{Wider, fit-later, kept-later}
use Rattle.scope_decs.proofs.Scoping.{context_typed, found-among, numbered_typed}

-- Constructors of a type constructor have schemes of the context, and no variables of the program.

part-within : {A : Type 0} (n k : ℕ) (xs : List A) → (take n (drop k xs) ≡ []) ⊎ (k + length (take n (drop k xs)) ≤ length xs)
part-within zero zero xs = inl refl
part-within (suc n) zero [] = inl refl
part-within (suc n) zero (x ∷ xs) = by (part-within n zero xs)
  where
    by : (take n xs ≡ []) ⊎ (zero + length (take n xs) ≤ length xs) → (take (suc n) (x ∷ xs) ≡ []) ⊎ (zero + length (take (suc n) (x ∷ xs)) ≤ length (x ∷ xs))
    by (inl e) = let z : length (take n xs) ≡ 0 = ap length e in inr (omega (arith, z))
    by (inr le) = inr (omega (arith, le))
part-within zero (suc k) [] = inl refl
part-within (suc n) (suc k) [] = inl refl
part-within n (suc k) (x ∷ xs) = by (part-within n k xs)
  where
    by : (take n (drop k xs) ≡ []) ⊎ (k + length (take n (drop k xs)) ≤ length xs) → (take n (drop k xs) ≡ []) ⊎ (suc k + length (take n (drop k xs)) ≤ length (x ∷ xs))
    by (inl e) = inl e
    by (inr le) = inr (omega (arith, le))

record IsBuilt (C : Context) (e : Entry) : Type 0 where
  held : (S : State) → IsHeld S C e
  unnumbered : number_of e ≡ None

built-in : (C : Context) (k : ℕ) (ss : List Scheme) → k + length ss ≤ length C.schemes.items → AllByRecursion (λ (e : Vid × Entry). IsBuilt C e.1) (constructors_in k ss)
built-in C k [] le = tt
built-in C k (s ∷ ss) le = by s.constructor (built-in C (suc k) ss (omega (arith, le)))
  where
    is : (b : Built) → IsBuilt C (constructor_entry k b).1
    is Ref = record { held = λ S. omega (arith, le); unnumbered = refl }
    is (Declared x y) = record { held = λ S. omega (arith, le); unnumbered = refl }

    by : (o : Option Built) → AllByRecursion (λ (e : Vid × Entry). IsBuilt C e.1) (constructors_in (suc k) ss)
        → AllByRecursion (λ (e : Vid × Entry). IsBuilt C e.1) (elim o [ None ↦ constructors_in (suc k) ss | Some c ↦ constructor_entry k c ∷ constructors_in (suc k) ss ])
    by None h = h
    by (Some c) h = (is c, h)

part-built : (C : Context) (k : ℕ) (ss : List Scheme) → (ss ≡ []) ⊎ (k + length ss ≤ length C.schemes.items) → AllByRecursion (λ (c : Vid × Entry). IsBuilt C c.1) (constructors_in k ss)
part-built C k ss (inl q) = subst (λ l. AllByRecursion (λ (c : Vid × Entry). IsBuilt C c.1) (constructors_in k l)) (sym q) tt
part-built C k ss (inr le) = built-in C k ss le

are-built : (C : Context) (e : TypeEntry) → AllByRecursion (λ (c : Vid × Entry). IsBuilt C c.1) (constructors_of C e)
are-built C e =
    part-built C e.constructors.first (take e.constructors.count (drop e.constructors.first C.schemes.items)) (part-within e.constructors.count e.constructors.first C.schemes.items)

below-built : (k : ℕ) (C : Context) (e : Entry) → IsBuilt C e → IsBelowIf k e
below-built k C e b n q = let u = b.unnumbered in cc

-- what it brings

abbrev replicate_effect : Around → ℕ → TypeStructure → Scope → Effect
replicate_effect A x v r = record {
  made = 0;
  number = A.number;
  env = record { values = given_values v.constructors; types = (x, v) ∷ []; structures = no_structures };
  scope = typed_by x r r;
  known = A.known;
}

module _ (C : Context) (W : World) (A : Around) (k x y : ℕ) (e : TypeEntry) (t : Tells C W A) (f : type_entry_of C.types [] y ≡ Some e) where
  abbrev es : List (Vid × Entry)
  es = constructors_of C e

  abbrev ts : List (ℕ × TypeEntry)
  ts = (x, e) ∷ []

  abbrev D : Context
  D = with_types (with_all C es) ts

  abbrev has : HasConstructors C W A e (at nat_eq A.env.types y) (typed_in A.scope y)
  has = t.constructors y e f

  abbrev r : Scope
  r = scope_of_entries es

  abbrev v : TypeStructure
  v = has.structure

  abbrev m : Effect
  m = replicate_effect A x v r

  abbrev B : Around
  B = past A m

  wider : Wider C D W A B
  wider = wider_same C D W A m t refl refl refl refl refl

  fits : (z : Vid) (d : Entry) → last_of es z ≡ Some d → IsFit C W A d
  fits z d q = last-among (IsFit C W A) es z d has.fit q

  kept-if : (z : Vid) (o : Option Entry) → last_of es z ≡ o → option_map (kept_of C W) o ≡ option_map (kept_of D W) o
  kept-if z None q = refl
  kept-if z (Some d) q = ap Some (sym (kept-later C D W A B wider d (fits z d q)))

  kept : (z : Vid) → lookup (same_vid z) (given_values v.constructors) ≡ option_map (kept_of D W) (last_of es z)
  kept z =
      ap (lookup (same_vid z)) has.values ∙ kept-listed C W es z ∙ ap (option_map (kept_of C W)) (sym (last-first es z has.once)) ∙ kept-if z (last_of es z) refl

  function : v.function ≡ function_of W e
  function =
      let a : option_map (λ (s : TypeStructure). s.function) (at nat_eq A.env.types y) ≡ option_map (function_of W) (type_entry_of C.types [] y) = t.types [] y in
      let b : Some v.function ≡ Some (function_of W e) = ap (option_map (λ (s : TypeStructure). s.function)) (sym has.is) ∙ a ∙ ap (option_map (function_of W)) f in
      cc

  typed : (z : ℕ) → option_map (λ (s : TypeStructure). s.function) (lookup (nat_eq z) m.env.types) ≡ option_map (function_of W) (last_at ts z)
  typed z = by (nat_eq z x)
    where
      by : (b : Bool) → option_map (λ (s : TypeStructure). s.function) (cond b (Some v) None) ≡ option_map (function_of W) (option_or None (cond b (Some e) None))
      by true = ap Some function
      by false = refl

  retyped : (s : Scope) (z : ℕ) → last_at ts z ≡ None → typed_in (plus_scope s m.scope) z ≡ typed_in s z
  retyped s z = by (nat_eq z x)
    where
      by : (b : Bool) → option_or None (cond b (Some e) None) ≡ None → cond b (Some r) (typed_in (plus_scope s r) z) ≡ typed_in s z
      by true q = cc
      by false q = untyped-listed s es z

  constructors : (s : Scope) (z : ℕ) (d : TypeEntry) → last_at ts z ≡ Some d → HasConstructors D W B d (lookup (nat_eq z) m.env.types) (typed_in (plus_scope s m.scope) z)
  constructors s z d = by (nat_eq z x)
    where
      still : HasConstructors D W B e (Some v) (Some r)
      still =
          has_constructors_still C D W W A B e (at nat_eq A.env.types y) (Some v) (typed_in A.scope y) (Some r) (begins-same C.schemes.items C.schemes.items refl)
          (kept-later C D W A B wider) (fit-later C D W A B wider) (sym has.is) (sym has.scopes) has

      by : (b : Bool) → option_or None (cond b (Some e) None) ≡ Some d → HasConstructors D W B d (cond b (Some v) None) (cond b (Some r) (typed_in (plus_scope s r) z))
      by true q = let same : e ≡ d = cc in subst (λ d. HasConstructors D W B d (Some v) (Some r)) same still
      by false q = cc

  replicate-brings : Brings D W A k es ts m
  replicate-brings = record {
    values = kept;
    types = typed;
    structures = refl;
    denotes = λ s z. denotes-listed s es z ∙ ap (λ o. option_or (option_map denotes_of o) (denotes_in s z)) (sym (last-first es z has.once));
    alone = λ s q. alone-listed s es q;
    retyped = retyped;
    constructors = constructors;
    fit = λ z d q. fit-later C D W A B wider d (fits z d q);
    new = λ z d n u q g.
        let a : number_of d ≡ Some n = number-known W B d n u g in
        let b = (last-among (IsBuilt C) es z d (are-built C e) q).unnumbered in
        cc;
    older = λ n lt. refl;
    names = let e = t.names in omega (arith, e);
    number = t.number;
    numbers = t.numbers;
    initial = t.initial;
    agree = λ z lt. refl;
    over = λ s g a. kept-env-under s (env v.constructors ((x, v) ∷ []) no_structures) ∙ sym (kept-env-under g (env v.constructors ((x, v) ∷ []) no_structures));
  }

-- it is bringing

-- no structure has types
short-only : (C : Context) (qs : List ℕ) (y : ℕ) (e : TypeEntry) → type_entry_of C.types qs y ≡ Some e → qs ≡ []
short-only C [] y e f = refl
short-only C (q ∷ qs) y e f = cc

adds : (C D : Context) (es : List (Vid × Entry)) (ts : List (ℕ × TypeEntry)) → D ≡ with_types (with_all C es) ts → Adds C D es ts
adds C D es ts q = subst (λ D. Adds C D es ts) (sym q) (record {
  values = refl;
  structures = refl;
  members = refl;
  tyvars = refl;
  types = refl;
  schemes = begins-same C.schemes.items C.schemes.items refl;
  level = refl;
  rest = refl;
  numbers = record { own = []; is = refl };
})

numbered : (k : ℕ) (C : Context) (e : TypeEntry) (ts : List (ℕ × TypeEntry)) → IsNumbered k C → IsNumbered k (with_types (with_all C (constructors_of C e)) ts)
numbered k C e ts n =
    numbered_typed k (with_all C (constructors_of C e)) ts
    (numbered_values k C (with_all C (constructors_of C e)) (constructors_of C e) n
    (all-map (λ (c : Vid × Entry). IsBuilt C c.1) (λ (c : Vid × Entry). IsBelowIf k c.1) (constructors_of C e) (λ c b. below-built k C c.1 b) (are-built C e)) refl)

abbrev short-dec : Place → ℕ → Place → ℕ → bare.Dec
short-dec p x place y = replicate_dec p x (record { place = place; long = record { qualifiers = []; id = y } })

elaborates : (C : Context) (W : World) (A : Around) (k : ℕ) (p : Place) (x : ℕ) (place : Place) (y : ℕ) (e : TypeEntry) → Tells C W A → type_entry_of C.types [] y ≡ Some e
    → ElaboratesWith W A k (short-dec p x place y) prog.no_decs (with_types (with_all C (constructors_of C e)) ((x, e) ∷ [])) (constructors_of C e) ((x, e) ∷ []) k
elaborates C W A k p x place y e t f =
    let h = t.constructors y e f in
    record {
      effect = replicate_effect A x h.structure (scope_of_entries (constructors_of C e));
      choices = no_choice;
      elab = λ i le. record { next = i; most = le; elab = replicate_elab p x h.is h.scopes };
      brings = replicate-brings C W A k x y e t f;
    }

short-bringing : (S : State) (C D : Context) (p : Place) (x : ℕ) (place : Place) (y : ℕ) (e : TypeEntry) (old new : Brought) → type_entry_of C.types [] y ≡ Some e
    → D ≡ with_types (with_all C (constructors_of C e)) ((x, e) ∷ []) → new.values.items ≡ old.values.items ++ constructors_of C e → new.types.items ≡ old.types.items ++ (x, e) ∷ []
    → IsBringing S C (short-dec p x place y) S D [] old new
short-bringing S C D p x place y e old new f d ev et = record {
  values = constructors_of C e;
  types = (x, e) ∷ [];
  all_values = ev;
  all_types = et;
  adds = adds C D (constructors_of C e) ((x, e) ∷ []) d;
  grows = grows_same S;
  numbered = λ n. subst (IsNumbered S.next) (sym d) (numbered S.next C e ((x, e) ∷ []) n);
  gives = λ n W c A t.
      subst (λ D. ElaboratesWith W A S.next (short-dec p x place y) prog.no_decs D (constructors_of C e) ((x, e) ∷ []) S.next) (sym d) (elaborates C W A S.next p x place y e t f);
}

pub replicate_bringing : (S : State) (C D : Context) (p : Place) (x : ℕ) (place : Place) (qs : List ℕ) (y : ℕ) (e : TypeEntry) (decs : List Dec) (old new : Brought)
    → type_entry_of C.types qs y ≡ Some e → D ≡ with_types (with_all C (constructors_of C e)) ((x, e) ∷ []) → decs ≡ []
    → new.values.items ≡ old.values.items ++ constructors_of C e → new.types.items ≡ old.types.items ++ (x, e) ∷ []
    → IsBringing S C (replicate_dec p x (record { place = place; long = record { qualifiers = qs; id = y } })) S D decs old new
replicate_bringing S C D p x place qs y e decs old new f d ed ev et =
    subst (λ l. IsBringing S C (replicate_dec p x (record { place = place; long = record { qualifiers = qs; id = y } })) S D l old new) (sym ed)
    (subst (λ l. IsBringing S C (replicate_dec p x (record { place = place; long = record { qualifiers = l; id = y } })) S D [] old new) (sym (short-only C qs y e f))
    (short-bringing S C D p x place y e old new (subst (λ l. type_entry_of C.types l y ≡ Some e) (short-only C qs y e f) f) d ev et))

-- the context with it

pub replicate_context : (S : State) (C D : Context) (x : ℕ) (qs : List ℕ) (y : ℕ) (e : TypeEntry) → type_entry_of C.types qs y ≡ Some e
    → D ≡ with_types (with_all C (constructors_of C e)) ((x, e) ∷ []) → IsContext S C → IsContext S D
replicate_context S C D x qs y e f d i =
    let short = subst (λ l. type_entry_of C.types l y ≡ Some e) (short-only C qs y e f) f in
    let es = constructors_of C e in
    let b = are-built C e in
    let j : IsContext S (with_all C es) =
    context_with S C (with_all C es) es i (all-map (λ (c : Vid × Entry). IsBuilt C c.1) (λ (c : Vid × Entry). IsHeld S C c.1) es (λ c z. z.held S) b)
    (all-map (λ (c : Vid × Entry). IsBuilt C c.1) (λ (c : Vid × Entry). IsBelowIf S.next c.1) es (λ c z. below-built S.next C c.1 z) b) refl in
    subst (IsContext S) (sym d)
    (context_typed S (with_all C es) x e j (found-among (λ e. e.body < length (types_in S)) C.types.types y e i.holds.bodies short)
    (found-among (λ e. top (type_at (types_in S) e.body) ≤ e.arity) C.types.types y e i.holds.closed short))
