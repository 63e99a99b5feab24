-- A declaration of datatypes elaborates, and it brings its type constructors and constructors into scope.
use Rattle.std.proofs.Common.{◌≡◌, ◌<◌, ℕ, true, false, Bool, cond, List, [], ◌∷◌, ◌++◌, length, Option, Some, None, nat_eq, nat_lt, refl, sym, ap, ap₂, subst, ◌∙◌, arith}
use Rattle.std.specs.Prelude.{option_map, option_and_then}
use Rattle.std.specs.Option.{option_or}
use Rattle.std.specs.List.{AllByRecursion}
use Rattle.std.specs.Map.{lookup}
use Rattle.std.proofs.lemmas.Bool.{lt-ltb, ltb-true}
use Rattle.std.proofs.lemmas.Option.{get_or_from_slice_get, slice_get_within}
use Rattle.mlc_base.specs.declared.place.Place.{Place}
use Rattle.ty_basis.specs.Types.{name_count}
use Rattle.ty_core.specs.Types.{Typ, con, name, var}
use Rattle.ty_core.specs.Statics.{named, variables}
use Rattle.ty_core.specs.declared.name.TyName.{TyName}
use Rattle.sml_tree.specs.declared.ident.Vid.{Vid}
use Rattle.sml_tree.specs.BareTree.{DataBind, datatype_dec}
use Rattle.core_rules.specs.Choices.{no_choice}
use Rattle.core_rules.specs.Elaborated.{all_constructors, datatypes, names_of, respects_equality}
use Rattle.core_rules.specs.Objects.{Map, TypeStructure, Values, env, no_structures}
use Rattle.core_rules.specs.Restrictions.{distinct}
use Rattle.core_rules.specs.Words.{same_vid}
use Rattle.core_elab.specs.Scopes.{Scope, denotes_in, typed_in}
use Rattle.elab_typed.specs.Contexts.{Around, generic, given_values, values_under}
use Rattle.elab_typed.specs.Elaborates.{datatype_elab}
use Rattle.elab_typed.specs.Numbers.{AgreeBelow, KeepsInitial}
use Rattle.elab_types.specs.Reading.{Holds}
use Rattle.elab_types.specs.declared.scope.TypeEntry.{TypeEntry}
use Rattle.elab_state.specs.States.{types_in}
use Rattle.elab_state.specs.declared.state.State.{State}
use Rattle.elab_steps.specs.World.{World, Comes}
use Rattle.elab_steps.proofs.Growing.{comes_before}
use Rattle.elab_context.specs.Entries.{entry_in, member_in, last_of}
use Rattle.elab_context.specs.Numbered.{IsBelowIf, IsNumbered}
use Rattle.elab_context.specs.Telling.{HasConstructors, IsContext, IsFit, IsHeld, Tells, denotes_of, function_of, kept_of, known_of}
use Rattle.elab_context.specs.declared.context.Context.{Context}
use Rattle.elab_context.specs.declared.entry.Entry.{Entry}
use Rattle.elab_context.specs.declared.entry.Entry.TheVariants.{Constructor, Reference, Initial, Primitive, Raised, Single, Own, General}
use Rattle.elab_context.proofs.Reading.{context_later, numbered_later}
use Rattle.elab_state.specs.States.{made as made'}
use Rattle.elab_steps.specs.Tidy.{IsLive}
use Rattle.ty_solve.specs.Substitution.{is_below}
use Rattle.ty_table.specs.TypeAt.{type_at}
use Rattle.dec_forms.proofs.Telling.{entry-among}
use Rattle.datatype_forms.proofs.Stepping.{longer-than}
use Rattle.vid_scope.specs.Entries.{entry_of}
use Rattle.dec_forms.specs.Bringing.{Brings, Effect, IsBringing, past}
use Rattle.dec_forms.specs.Entries.{last_at}
use Rattle.dec_forms.specs.Telling.{with_all}
use Rattle.dec_forms.specs.declared.brought.Brought.{Brought}
use Rattle.dec_forms.proofs.Bodies.{reads-types}
use Rattle.dec_forms.proofs.DeclaringTypes as tycons
use Rattle.dec_forms.proofs.Listed.{kept-listed, last-among, last-first}
use Rattle.dec_forms.proofs.Plain.{numbered_values}
use Rattle.datatype_forms.specs.Arguments.{data_structures, rows_at}
use Rattle.datatype_forms.specs.Declaration.{AreDeclared, HasNew, is_constructor}
use Rattle.datatype_forms.specs.Made.{EachMade, none_made, one_made, AllMade, no_datatype, a_datatype}
use Rattle.datatype_forms.specs.Reading.{AreNameEntries}
use Rattle.datatype_forms.proofs.Bringing.{Scoped, all_fit, all_kept, found_made, scope_made, scope_of}
use Rattle.datatype_forms.proofs.InNames.{names_hold, tycons-same}

-- no constructor has a variable of the program

abbrev Unknown : World → Around → Entry → Type 0
Unknown W A e = known_of W A e ≡ None

each-unknown : {D : Context} {W : World} {as_ : List _} {y : TyName} {bs : List _} {os : List _} {es : List (Vid × Entry)} (A : Around) → EachMade D W as_ y bs os es
    → AllByRecursion (λ (e : Vid × Entry). Unknown W A e.1) es
each-unknown A none_made = tt
each-unknown {W = W} A (one_made m h) = (subst (λ (e : Vid × Entry). Unknown W A e.1) (sym m.is) refl, each-unknown A h)

one-below : (k : ℕ) (e : Entry) → is_constructor e ≡ true → IsBelowIf k e
one-below k (Constructor s n y) h = λ m q. cc
one-below k (Reference s) h = cc
one-below k (Initial s n) h = cc
one-below k (Primitive s q) h = cc
one-below k (Raised n a) h = cc
one-below k (Single t n) h = cc
one-below k (Own t n) h = cc
one-below k (General l t n o) h = cc

all-below : (k : ℕ) (es : List (Vid × Entry)) → AllByRecursion (λ (e : Vid × Entry). is_constructor e.1 ≡ true) es → AllByRecursion (λ (e : Vid × Entry). IsBelowIf k e.1) es
all-below k [] h = tt
all-below k (e ∷ es) h = (one-below k e.1 h.0, all-below k es h.1)

all-append : (P : Vid × Entry → Type 0) (es fs : List (Vid × Entry)) → AllByRecursion P es → AllByRecursion P fs → AllByRecursion P (es ++ fs)
all-append P [] fs h g = g
all-append P (e ∷ es) fs h g = (h.0, all-append P es fs h.1 g)

all-unknown : {D : Context} {W : World} {ns : List TyName} {bs : List DataBind} {oss : List _} {es : List (Vid × Entry)} {ts : List (ℕ × TypeEntry)} (A : Around) → AllMade D W ns bs oss es ts
    → AllByRecursion (λ (e : Vid × Entry). Unknown W A e.1) es
all-unknown A no_datatype = tt
all-unknown {W = W} A (a_datatype {es = es} {fs = fs} a m n h) = all-append (λ (e : Vid × Entry). Unknown W A e.1) es fs (each-unknown A m) (all-unknown A h)

-- type constructors

types-found : (W : World) (ts : List Typ) (bs : List DataBind) (ns : List TyName) (oss : List (List (Option Typ))) (es : List (ℕ × TypeEntry)) (x : ℕ) → length oss ≡ length bs
    → ((k : ℕ) → k < length ts → W.raw k ≡ Rattle.ty_table.specs.TypeAt.type_at ts k) → AreNameEntries ts bs ns es
    → option_map (λ y. y.function) (lookup (nat_eq x) (data_structures ns bs oss)) ≡ option_map (function_of W) (lookup (nat_eq x) es)
types-found W ts [] [] oss [] x l r h = refl
types-found W ts [] [] oss (e ∷ es) x l r h = absurd h
types-found W ts [] (n ∷ ns) oss es x l r h = absurd h
types-found W ts (b ∷ bs) [] oss es x l r h = absurd h
types-found W ts (b ∷ bs) (n ∷ ns) oss [] x l r h = absurd h
types-found W ts (b ∷ bs) (n ∷ ns) [] (e ∷ es) x l r h = absurd (omega (arith, l))
types-found W ts (b ∷ bs) (n ∷ ns) (os ∷ oss) (e ∷ es) x l r h =
    ap (λ k. option_map (λ y. y.function) (cond (nat_eq x k) (Some (record { function = named n; constructors = Rattle.datatype_forms.specs.Arguments.data_values b.tyvars n b.cons os })) (lookup (nat_eq x) (data_structures ns bs oss))))
    (sym h.0.0) ∙ by (nat_eq x e.0) (types-found W ts bs ns oss es x (omega (arith, l)) r h.1)
  where
    raw : W.raw e.1.body ≡ con (name n) (variables 0 n.arity)
    raw =
        r e.1.body (slice_get_within ts e.1.body (con (name n) (variables 0 n.arity)) h.0.1.body)
        ∙ get_or_from_slice_get ts e.1.body (con (name n) (variables 0 n.arity)) (var 0) h.0.1.body

    by : (c : Bool) → option_map (λ y. y.function) (lookup (nat_eq x) (data_structures ns bs oss)) ≡ option_map (function_of W) (lookup (nat_eq x) es)
        → option_map (λ y. y.function) (cond c (Some (record { function = named n; constructors = Rattle.datatype_forms.specs.Arguments.data_values b.tyvars n b.cons os })) (lookup (nat_eq x) (data_structures ns bs oss)))
        ≡ option_map (function_of W) (cond c (Some e.1) (lookup (nat_eq x) es))
    by true k = ap Some (λ i. record { arity = sym h.0.1.arity i; body = sym raw i })
    by false k = k

rows-made : {D : Context} {W : World} {ns : List TyName} {bs : List DataBind} {oss : List (List (Option Typ))} {es : List (Vid × Entry)} {ts : List (ℕ × TypeEntry)} → AllMade D W ns bs oss es ts
    → length oss ≡ length bs
rows-made no_datatype = refl
rows-made (a_datatype a m n h) = ap ℕ.suc (rows-made h)

-- nothing is said of parameters

given-same : (s f : ℕ → Typ) (vs : Values) → values_under s (given_values vs) ≡ values_under f (given_values vs)
given-same s f [] = refl
given-same s f (v ∷ vs) = ap (λ l. (v.0, v.1) ∷ l) (given-same s f vs)

append-nil : {A : Type 0} (xs : List A) → xs ≡ xs ++ []
append-nil [] = refl
append-nil (x ∷ xs) = ap (λ l. x ∷ l) (append-nil xs)

module _ (S T : State) (C D : Context) (bs : List DataBind) (es : List (Vid × Entry)) (ts : List (ℕ × TypeEntry)) (d : AreDeclared S C bs T D es ts) where
  abbrev ns : List TyName
  ns = names_of C.names d.marks bs

  abbrev structures : Map ℕ TypeStructure
  structures = data_structures ns bs (rows_at (types_in T) d.rows)

  abbrev effect : World → Around → Scope → Effect
  effect W A r = record {
    made = length bs;
    number = W.naming D.naming;
    env = record { values = given_values (all_constructors structures); types = structures; structures = no_structures };
    scope = r;
    known = A.known;
  }

  module _ (W : World) (A : Around) (c : Comes T W) (t : Tells C W A) where
    numbers : (x : ℕ) → W.naming D.naming x ≡ Rattle.elab_context.specs.Entries.number_in D x
    numbers = d.numbers W c t.numbers

    made : AllMade D W ns bs (rows_at (types_in T) d.rows) es ts
    made = d.made W c numbers

    first-at : (x : ℕ) → last_at ts x ≡ lookup (nat_eq x) ts
    first-at x = tycons.last-first ts x (ap (distinct nat_eq) (tycons-same (types_in T) bs ns ts d.entries) ∙ d.tycons)

    agrees : AgreeBelow A.names A.number (W.naming D.naming)
    agrees x lt = d.agree W c x (subst (λ n. nat_lt x n ≡ true) t.names lt) ∙ ap (λ (f : ℕ → ℕ). f x) (sym t.number)

    keeps : KeepsInitial (W.naming D.naming)
    keeps x lt =
        let w = d.wide in let l = ltb-true x name_count lt in let n = t.names in
        agrees x (lt-ltb x A.names (omega (arith, w, l, n))) ∙ t.initial x lt

    pub datatypes_bring : (r : Scoped D bs es ts) → Brings D W A S.next es ts (effect W A r.scope)
    datatypes_bring r = record {
      values = λ x. ap (lookup (same_vid x)) (all_kept made) ∙ kept-listed D W es x ∙ ap (option_map (kept_of D W)) (sym (last-first es x d.vids));
      types = λ x.
          types-found W (types_in T) bs ns (rows_at (types_in T) d.rows) ts x (rows-made made) c.types d.entries
          ∙ ap (option_map (function_of W)) (sym (first-at x));
      structures = refl;
      denotes = λ s x. r.denotes s x ∙ ap (λ o. option_or (option_map denotes_of o) (denotes_in s x)) (sym (last-first es x d.vids));
      alone = r.alone;
      retyped = λ s x h. r.typed s x ∙ ap (λ o. option_or (option_map (scope_of D) o) (typed_in s x)) (sym (first-at x) ∙ h);
      constructors = λ s x e h.
          let found : lookup (nat_eq x) ts ≡ Some e = sym (first-at x) ∙ h in
          subst (HasConstructors D W (past A (effect W A r.scope)) e (lookup (nat_eq x) structures)) (sym (r.typed s x ∙ ap (λ o. option_or (option_map (scope_of D) o) (typed_in s x)) found))
          (found_made (past A (effect W A r.scope)) x e made d.vids found);
      fit = λ x e h. last-among (IsFit D W (past A (effect W A r.scope))) es x e (all_fit (past A (effect W A r.scope)) made) h;
      new = λ x e n v h q. let u = last-among (Unknown W (past A (effect W A r.scope))) es x e (all-unknown (past A (effect W A r.scope)) made) h in cc;
      older = λ n lt. refl;
      names = let a = t.names in let b = d.names in omega (arith, a, b);
      number = refl;
      numbers = numbers;
      initial = keeps;
      agree = agrees;
      over = λ s f h. ap (λ vs. env vs structures no_structures) (given-same s f (all_constructors structures));
    }

  -- the program's variables in scope are those that were

  entry-same : (qs : List ℕ) (x : Vid) → entry_in D qs x ≡ entry_in (with_all C es) qs x
  entry-same [] x = ap (λ v. entry_of v x) d.adds.values
  entry-same (q ∷ []) x = ap₂ (λ ms ss. option_and_then (λ k. member_in ms k x) (lookup (nat_eq q) ss)) d.adds.members d.adds.structures
  entry-same (q ∷ r ∷ qs) x = refl

  pub declared_numbered : IsNumbered S.next C → IsNumbered T.next D
  declared_numbered n qs x e h =
      numbered_values T.next C (with_all C es) es (numbered_later S.next T.next C d.step.grows.next n) (all-below T.next es d.constructors) refl qs x e (sym (entry-same qs x) ∙ h)

  pub datatypes_declared : (p : Place) (old new : Brought) → Holds (types_in S) C.types → new.values.items ≡ old.values.items ++ es → new.types.items ≡ old.types.items ++ ts → IsBringing S C (datatype_dec p bs) T D [] old new
  datatypes_declared p old new holds ev et = record {
    values = es;
    types = ts;
    all_values = ev;
    all_types = et;
    adds = d.adds;
    grows = d.step.grows;
    numbered = declared_numbered;
    gives = λ n W c A t.
        let r = scope_made (made W A c t) in
        let reads = reads-types S C.types C W A holds (comes_before S T W d.step.grows c) refl t in
        let best = d.best (generic A) t.names reads in
        let are : datatypes (generic A) d.marks bs ≡ Some structures = d.are (generic A) t.names reads in
        let same : best.structures ≡ structures = unwrap (sym best.are ∙ are) in
        record {
          effect = effect W A r.scope;
          choices = no_choice;
          elab = λ i le. record {
            next = i;
            most = let m = d.step.grows.next in omega (arith, le, m);
            elab = datatype_elab p d.marks (W.naming D.naming) d.count are (subst (λ ss. respects_equality d.marks ss ≡ true) same best.respect) best.greatest (agrees W A c t) (keeps W A c t) r.to;
          };
          brings = datatypes_bring W A c t r;
        };
  }
    where
      unwrap : {x y : Map ℕ TypeStructure} → Some x ≡ Some y → x ≡ y
      unwrap e = cc

  -- the context behind it

  entry-later : (e : Entry) → IsHeld T C e → IsHeld T D e
  entry-later (Constructor s n y) h = let l = longer-than C.schemes.items D.schemes.items d.adds.schemes in omega (arith, l, h)
  entry-later (Reference s) h = let l = longer-than C.schemes.items D.schemes.items d.adds.schemes in omega (arith, l, h)
  entry-later (Initial s n) h = let l = longer-than C.schemes.items D.schemes.items d.adds.schemes in omega (arith, l, h)
  entry-later (Primitive s q) h = let l = longer-than C.schemes.items D.schemes.items d.adds.schemes in omega (arith, l, h)
  entry-later (Raised n a) h = h
  entry-later (Single t n) h = h
  entry-later (Own t n) h = h
  entry-later (General l t n o) h = h

  held-among : (i : IsContext T C) (n : HasNew T D es) (qs : List ℕ) (x : Vid) (e : Entry) → entry_in (with_all C es) qs x ≡ Some e → IsHeld T D e
  held-among i n [] x e h = by (last_of es x) refl (sym (entry-among C.values es x) ∙ h)
    where
      by : (o : Option Entry) → last_of es x ≡ o → option_or o (entry_of C.values x) ≡ Some e → IsHeld T D e
      by None r s = entry-later e (i.entries [] x e s)
      by (Some v) r s = last-among (IsHeld T D) es x e n.entries (r ∙ s)
  held-among i n (q ∷ []) x e h = entry-later e (i.entries (q ∷ []) x e h)
  held-among i n (q ∷ r ∷ qs) x e h = entry-later e (i.entries (q ∷ r ∷ qs) x e h)

  pub datatypes_in_context : IsContext S C → HasNew T D es → IsContext T D
  datatypes_in_context i n =
      let j = context_later S T C d.step.grows i in
      record {
        wide = let w = i.wide in let a = d.names in omega (arith, w, a);
        deep = let w = i.deep in let a = d.adds.level in omega (arith, w, a);
        naming = n.naming;
        holds = names_hold (types_in T) C.types D.types bs ns ts j.holds d.entries d.adds.tyvars d.adds.types;
        known = subst (AllByRecursion (λ (b : ℕ × ℕ). is_below (made' T) (type_at (types_in T) b.1) ≡ true)) (sym d.adds.tyvars) j.known;
        schemes = n.schemes;
        entries = λ qs x e h. held-among j n qs x e (sym (entry-same qs x) ∙ h);
        numbered = declared_numbered i.numbered;
        live = subst (AllByRecursion (λ (b : ℕ × ℕ). IsLive T b.1)) (sym d.adds.tyvars) j.live;
        level = let w = j.level in let a = d.adds.level in omega (arith, w, a);
        tidy = j.tidy;
      }
