-- Type functions of bindings.
use Rattle.std.proofs.Common.{◌≡◌, ◌<◌, ◌≤◌, ◌+◌, ◌-◌, ◌&&◌, ℕ, zero, suc, true, List, [], ◌∷◌, ◌++◌, map, length, drop, take, get_or, Option, Some, None, nat_eq, refl, sym, ap, ap₂, subst, ◌∙◌, arith}
use Rattle.std.specs.Prelude.{option_map}
use Rattle.std.specs.Option.{option_zip}
use Rattle.std.specs.List.{AllByRecursion, list_all}
use Rattle.std.specs.Map.{lookup}
use Rattle.std.proofs.lemmas.Bool.{and_parts}
use Rattle.std.proofs.lemmas.List.{map-append}
use Rattle.std.proofs.Math.Seq.{take-suc}
use Rattle.ty_core.specs.Types.{Typ}
use Rattle.ty_table.specs.TypeAt.{top, type_at}
use Rattle.ty_solve.proofs.Holding.{type-stays}
use Rattle.ty_instance.proofs.Going.{longer}
use Rattle.sml_tree.specs.BareTree.{TypeBind}
use Rattle.sml_tree.specs.TreeOf.{type_bind_of}
use Rattle.sml_tree.specs.declared.tree.TypeBind.{TypeBind as Bind}
use Rattle.core_rules.specs.Elaborated.{type_of, types_bound, with_parameters}
use Rattle.core_rules.specs.Objects.{Context as StaticContext, Map, TypeStructure}
use Rattle.core_rules.specs.Restrictions.{no_repetition}
use Rattle.elab_typed.specs.Contexts.{Around, generic}
use Rattle.elab_types.specs.Reading.{Holds, function_in}
use Rattle.elab_types.specs.declared.scope.TypeEntry.{TypeEntry}
use Rattle.elab_types.specs.declared.scope.TypeScope.{TypeScope}
use Rattle.elab_types.proofs.Holding.{body-held}
use Rattle.elab_types.proofs.Keeping.{holds_later}
use Rattle.closed_types.specs.of_elab_state.States.{types_in}
use Rattle.closed_types.specs.of_elab_state.declared.state.State.{State}
use Rattle.closed_types.specs.of_elab_steps.Growing.{Grows}
use Rattle.closed_types.specs.of_elab_steps.World.{World, Comes}
use Rattle.closed_types.proofs.of_elab_steps.Growing.{comes_before, grows_on, grows_same}
use Rattle.exp_forms.specs.of_elab_context.Telling.{Tells, function_of}
use Rattle.exp_forms.specs.of_elab_context.declared.context.Context.{Context}
use Rattle.closed_types.specs.Parameters.{AreParameters, IsClosedType, ReadsTypes}
use Rattle.closed_types.proofs.Entering.{top-below}
use Rattle.dec_forms.specs.Abbreviations.{AreTypeFunctions, IsClosedEntry, IsTypeFunction, no_schemes, type_map}

-- in a world a scope tells of the type constructors that are around a phrase
pub reads-types : (S : State) (s : TypeScope) (C : Context) (W : World) (A : Around) → Holds (types_in S) s → Comes S W → C.types.types ≡ s.types → Tells C W A
    → ReadsTypes (types_in S) s (generic A)
reads-types S s C W A h c e t [] x = t.types [] x ∙ ap (λ l. option_map (function_of W) (lookup (nat_eq x) l)) e ∙ by (lookup (nat_eq x) s.types) refl
  where
    by : (o : Option TypeEntry) → lookup (nat_eq x) s.types ≡ o → option_map (function_of W) o ≡ option_map (function_in (types_in S)) o
    by None q = refl
    by (Some n) q = ap (λ (u : Typ). Some (record { arity = n.arity; body = u })) (c.types n.body (body-held (types_in S) s h x n q))
reads-types S s C W A h c e t (q ∷ qs) x = t.types (q ∷ qs) x

pub function_is : (S M T : State) (outer s : TypeScope) (b : TypeBind) (e : TypeEntry) → Holds (types_in S) outer → Grows S M → M.next ≡ S.next → s.types ≡ outer.types
    → AreParameters (types_in M) 0 b.tyvars s.tyvars → Grows M T → T.next ≡ M.next → IsClosedType (types_in M) (types_in T) outer b.tyvars b.ty e.body → e.arity ≡ length b.tyvars
    → no_repetition b.tyvars ≡ true → e.constructors ≡ no_schemes → IsTypeFunction S outer b T e
function_is S M T outer s b e h g n et p gt nt is ar once bare = record {
  grows = grows_on S M T g gt;
  next = nt ∙ n;
  entry = record {
    held = is.held;
    closed = subst (λ k. top (type_at (types_in T) e.body) ≤ k) (sym ar) (top-below (length b.tyvars) (type_at (types_in T) e.body) is.below);
    bare = bare;
  };
  arity = ar;
  unrepeated = once;
  gives = λ W c C A q t.
      let cm = comes_before M T W gt c in
      is.is (generic A) (reads-types M outer C W A (holds_later (types_in S) (types_in M) outer g.types h) cm q t) ∙ ap Some (sym (c.types e.body is.held));
}

-- one more

pub closed_later : (S T : State) (e : TypeEntry) → Grows S T → IsClosedEntry S e → IsClosedEntry T e
closed_later S T e g h = record {
  held = let le = longer (types_in S) (types_in T) g.types in let lt = h.held in omega (arith, le, lt);
  closed = subst (λ t. top t ≤ e.arity) (sym (type-stays (types_in S) (types_in T) e.body g.types h.held)) h.closed;
  bare = h.bare;
}

all-append : {A : Type 0} (P Q : A → Type 0) (xs : List A) (x : A) → ((y : A) → P y → Q y) → AllByRecursion P xs → Q x → AllByRecursion Q (xs ++ x ∷ [])
all-append P Q [] x f h p = (p, tt)
all-append P Q (y ∷ xs) x f h p = (f y h.0, all-append P Q xs x f h.1 p)

bound-append : (c : StaticContext) (bs : List TypeBind) (ts : Map ℕ TypeStructure) (b : TypeBind) (t : Typ) → types_bound c bs ≡ Some ts → type_of (with_parameters c b.tyvars) b.ty ≡ Some t
    → types_bound c (bs ++ b ∷ []) ≡ Some (ts ++ (b.tycon, record { function = record { arity = length b.tyvars; body = t }; constructors = [] }) ∷ [])
bound-append c [] ts b t h e =
    let n : [] ≡ ts = cc in
    ap (λ o. option_map (λ (r : Typ × Map ℕ TypeStructure). (b.tycon, record { function = record { arity = length b.tyvars; body = r.0 }; constructors = [] }) ∷ r.1) (option_zip o (Some []))) e
    ∙ ap (λ (l : Map ℕ TypeStructure). Some (l ++ (b.tycon, record { function = record { arity = length b.tyvars; body = t }; constructors = [] }) ∷ [])) n
bound-append c (d ∷ bs) ts b t h e = by (type_of (with_parameters c d.tyvars) d.ty) (types_bound c bs) refl h (λ us q. bound-append c bs us b t q e)
  where
    by : (o : Option Typ) (p : Option (Map ℕ TypeStructure)) → types_bound c bs ≡ p
        → option_map (λ (r : Typ × Map ℕ TypeStructure). (d.tycon, record { function = record { arity = length d.tyvars; body = r.0 }; constructors = [] }) ∷ r.1) (option_zip o p) ≡ Some ts
        → ((us : Map ℕ TypeStructure) → types_bound c bs ≡ Some us
        → types_bound c (bs ++ b ∷ []) ≡ Some (us ++ (b.tycon, record { function = record { arity = length b.tyvars; body = t }; constructors = [] }) ∷ []))
        → option_map (λ (r : Typ × Map ℕ TypeStructure). (d.tycon, record { function = record { arity = length d.tyvars; body = r.0 }; constructors = [] }) ∷ r.1)
        (option_zip o (types_bound c (bs ++ b ∷ [])))
        ≡ Some (ts ++ (b.tycon, record { function = record { arity = length b.tyvars; body = t }; constructors = [] }) ∷ [])
    by None p q k f = cc
    by (Some u) None q k f = cc
    by (Some u) (Some us) q k f =
        let first : TypeStructure = record { function = record { arity = length d.tyvars; body = u }; constructors = [] } in
        let last : TypeStructure = record { function = record { arity = length b.tyvars; body = t }; constructors = [] } in
        let whole : Map ℕ TypeStructure = (d.tycon, first) ∷ us in
        let same : whole ≡ ts = cc in
        ap (λ o. option_map (λ (r : Typ × Map ℕ TypeStructure). (d.tycon, record { function = record { arity = length d.tyvars; body = r.0 }; constructors = [] }) ∷ r.1) (option_zip (Some u) o))
        (f us q)
        ∙ ap (λ (l : Map ℕ TypeStructure). Some (l ++ (b.tycon, last) ∷ [])) same

list-all-append : (bs : List TypeBind) (b : TypeBind) → list_all (λ b. no_repetition b.tyvars) bs ≡ true → no_repetition b.tyvars ≡ true
    → list_all (λ (b : TypeBind). no_repetition b.tyvars) (bs ++ b ∷ []) ≡ true
list-all-append [] b h m = ap (λ c. c && true) m
list-all-append (d ∷ bs) b h m =
    let p = and_parts (no_repetition d.tyvars) (list_all (λ (b : TypeBind). no_repetition b.tyvars) bs) h in ap₂ (λ a c. a && c) p.0 (list-all-append bs b p.1 m)

pub no_functions : (S : State) (s : TypeScope) (ts : List (ℕ × TypeEntry)) → ts ≡ [] → AreTypeFunctions S s [] S ts
no_functions S s ts e = subst (AreTypeFunctions S s [] S) (sym e) (record {
  grows = grows_same S;
  next = refl;
  entries = tt;
  tycons = refl;
  unrepeated = refl;
  gives = λ W c C A q t. refl;
})

pub one_function : (S M T : State) (s : TypeScope) (bs : List TypeBind) (b : TypeBind) (old new : List (ℕ × TypeEntry)) (e : TypeEntry) → AreTypeFunctions S s bs M old → IsTypeFunction M s b T e
    → new ≡ old ++ (b.tycon, e) ∷ [] → AreTypeFunctions S s (bs ++ b ∷ []) T new
one_function S M T s bs b old new e h i q = subst (AreTypeFunctions S s (bs ++ b ∷ []) T) (sym q) (record {
  grows = grows_on S M T h.grows i.grows;
  next = i.next ∙ h.next;
  entries =
      all-append (λ (d : ℕ × TypeEntry). IsClosedEntry M d.1) (λ (d : ℕ × TypeEntry). IsClosedEntry T d.1) old (b.tycon, e) (λ d c. closed_later M T d.1 i.grows c) h.entries i.entry;
  tycons =
      map-append (λ (d : ℕ × TypeEntry). d.0) old ((b.tycon, e) ∷ []) ∙ ap (λ l. l ++ b.tycon ∷ []) h.tycons ∙ sym (map-append (λ (d : TypeBind). d.tycon) bs (b ∷ []));
  unrepeated = list-all-append bs b h.unrepeated i.unrepeated;
  gives = λ W c C A q t.
      bound-append (generic A) bs (type_map W old) b (W.raw e.body) (h.gives W (comes_before M T W i.grows c) C A q t) (i.gives W c C A q t)
      ∙ ap (λ n. Some (type_map W old ++ (b.tycon, record { function = record { arity = n; body = W.raw e.body }; constructors = [] }) ∷ [])) (sym i.arity)
      ∙ ap Some (sym (map-append (λ (d : ℕ × TypeEntry). (d.0, record { function = function_of W d.1; constructors = [] })) old ((b.tycon, e) ∷ [])));
})

-- in a scope that has the same type constructors

pub functions_in : (S T : State) (s u : TypeScope) (bs : List TypeBind) (ts : List (ℕ × TypeEntry)) → u.types ≡ s.types → AreTypeFunctions S u bs T ts → AreTypeFunctions S s bs T ts
functions_in S T s u bs ts e h = record {
  grows = h.grows;
  next = h.next;
  entries = h.entries;
  tycons = h.tycons;
  unrepeated = h.unrepeated;
  gives = λ W c C A q t. h.gives W c C A (q ∙ sym e) t;
}

pub holds_without : (ts : List Typ) (s u : TypeScope) → u.tyvars ≡ [] → u.types ≡ s.types → Holds ts s → Holds ts u
holds_without ts s u n e h = record {
  tyvars = subst (AllByRecursion (λ b. b.1 < length ts)) (sym n) tt;
  bodies = subst (AllByRecursion (λ b. b.1.body < length ts)) (sym e) h.bodies;
  closed = subst (AllByRecursion (λ b. top (type_at ts b.1.body) ≤ b.1.arity)) (sym e) h.closed;
}

-- a scope is its parts
pub scope-same : (s u : TypeScope) → u.tyvars ≡ s.tyvars → u.types ≡ s.types → u ≡ s
scope-same s u e q = λ i. record { tyvars = e i; types = q i }

drop-all : {A : Type 0} (xs : List A) → drop (length xs) xs ≡ []
drop-all [] = refl
drop-all (x ∷ xs) = drop-all xs

pub none-left : {A : Type 0} (xs ys : List A) → ys ≡ drop (length xs - 0) xs → ys ≡ []
none-left xs ys e = let n : length xs - 0 ≡ length xs = omega arith in e ∙ ap (λ k. drop k xs) n ∙ drop-all xs

-- one element of a list

pub same-index : {A : Type 0} (xs : List A) (i : ℕ) (a b : A) → i < length xs → a ≡ get_or xs i a → b ≡ get_or xs i b → a ≡ b
same-index [] i a b lt e q = absurd (omega arith)
same-index (x ∷ xs) zero a b lt e q = e ∙ sym q
same-index (x ∷ xs) (suc i) a b lt e q = same-index xs i a b (omega arith) e q

pub binds-next : (bs : List Bind) (i : ℕ) (b : Bind) → i < length bs → b ≡ get_or bs i b → map type_bind_of (take i bs) ++ type_bind_of b ∷ [] ≡ map type_bind_of (take (i + 1) bs)
binds-next bs i b lt e =
    let up : suc i ≡ i + 1 = omega arith in
    sym (map-append type_bind_of (take i bs) (b ∷ [])) ∙ ap (map type_bind_of) (ap (λ (z : Bind). take i bs ++ z ∷ []) e ∙ sym (take-suc bs i b lt) ∙ ap (λ j. take j bs) up)
