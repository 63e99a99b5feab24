-- What a state has of a context inside a declaration.
use Rattle.std.proofs.Common.{◌≡◌, ◌<◌, ◌≤◌, ℕ, suc, true, false, List, [], ◌∷◌, length, Option, Some, None, refl, sym, subst, arith}
use Rattle.std.specs.List.{AllByRecursion}
use Rattle.ty_core.specs.Marks.{is_inhabited}
use Rattle.ty_core.specs.declared.mark.Mark.{Mark}
use Rattle.ty_core.specs.declared.scheme.Quantified.{Quantified}
use Rattle.ty_table.specs.TypeAt.{top, type_at}
use Rattle.ty_solve.specs.Limits.{limit_at}
use Rattle.ty_solve.specs.Substitution.{is_below, is_in}
use Rattle.sml_tree.specs.declared.ident.Vid.{Vid}
use Rattle.ir_poly.specs.Types.{in_scope}
use Rattle.ir_tables.specs.Tables.{parameters_at, parameters_of}
use Rattle.elab_types.specs.Reading.{AreKnown, Holds}
use Rattle.elab_types.specs.declared.scope.TypeEntry.{TypeEntry}
use Rattle.elab_types.specs.declared.scope.TypeScope.{TypeScope}
use Rattle.elab_state.specs.Namings.{IsAmong}
use Rattle.elab_state.specs.States.{types_in, made, dead_level}
use Rattle.elab_state.specs.declared.state.State.{State}
use Rattle.elab_steps.specs.Growing.{Grows, HasGeneral, HasType}
use Rattle.elab_steps.specs.Instances.{IsScheme}
use Rattle.elab_steps.specs.Tidy.{IsLive, IsTidy}
use Rattle.elab_context.specs.Entries.{entry_in}
use Rattle.elab_context.specs.Numbered.{IsBelowIf}
use Rattle.elab_context.specs.Telling.{HasList, IsContext, IsHeld, IsHeldIf}
use Rattle.elab_context.specs.declared.context.Context.{Context}
use Rattle.elab_context.specs.declared.entry.Entry.{Entry}
use Rattle.elab_context.specs.declared.entry.Entry.TheVariants.{Constructor, Reference, Initial, Primitive, Raised, Single, Own, General}
use Rattle.elab_context.proofs.Reading.{context_later}
use Rattle.general_worlds.specs.Inner.{deeper}
use Rattle.general_worlds.specs.Tidy.{Enters}
use Rattle.general_worlds.proofs.Declaring.{entered-tidy, entered-type}

-- where the declaration begins

module _ (R S : State) (e : Enters R S) where
  scheme-stays : (marks : List Mark) (body : ℕ) → IsScheme R marks body → IsScheme S marks body
  scheme-stays marks body h = record {
    held = subst (λ s. body < length s.subst.types) (sym e.solver) h.held;
    closed = subst (λ s. is_below (length marks) (type_at s.subst.types body) ≡ true) (sym e.solver) h.closed;
    inhabited = h.inhabited;
  }

  general-stays : (qs : List Quantified) (k : ℕ) → HasGeneral R qs k → HasGeneral S qs k
  general-stays qs k h = record {
    held = subst (λ s. k < length s.subst.types) (sym e.solver) h.held;
    below = subst (λ s. is_below (length s.subst.slots.items) (type_at s.subst.types k) ≡ true) (sym e.solver) h.below;
    live =
        subst (λ s. (v : ℕ) → is_in v (type_at s.subst.types k) ≡ true → in_scope qs v ≡ false → (limit_at s.limits.items v).level < dead_level)
        (sym e.solver) h.live;
  }

  list-stays : (l : ℕ) → HasList R l → HasList S l
  list-stays l h = record {
    held = subst (λ t. l < length (parameters_of t)) (sym e.tables) h.held;
    inhabited = subst (λ t. AllByRecursion (λ (q : Quantified). is_inhabited q.mark ≡ true) (parameters_at (parameters_of t) l)) (sym e.tables) h.inhabited;
  }

  type-stays-if : (o : Option ℕ) → IsHeldIf R o → IsHeldIf S o
  type-stays-if None h = tt
  type-stays-if (Some k) h = entered-type R S e k h

  held-stays : (C D : Context) → D.schemes ≡ C.schemes → (x : Entry) → IsHeld R C x → IsHeld S D x
  held-stays C D q (Constructor s n y) h = subst (λ ks. s < length ks.items) (sym q) h
  held-stays C D q (Reference s) h = subst (λ ks. s < length ks.items) (sym q) h
  held-stays C D q (Initial s n) h = subst (λ ks. s < length ks.items) (sym q) h
  held-stays C D q (Primitive s p) h = subst (λ ks. s < length ks.items) (sym q) h
  held-stays C D q (Raised n a) h = type-stays-if a h
  held-stays C D q (Single t n) h = entered-type R S e t h
  held-stays C D q (Own t n) h = entered-type R S e t h
  held-stays C D q (General l t n o) h = (
    subst (λ b. HasGeneral S (parameters_at (parameters_of b) l) t) (sym e.tables) (general-stays (parameters_at (parameters_of R.tables) l) t h.0),
    list-stays l h.1,
  )

  entered-context : (C : Context) → suc R.level < dead_level → IsContext R C → IsContext S (deeper C C.types)
  entered-context C low i = record {
    wide = i.wide;
    deep = let a = i.level in omega (arith, a, low);
    naming = subst (λ ns. IsAmong (length ns) C.naming) (sym e.namings) i.naming;
    holds = subst (λ s. Holds s.subst.types C.types) (sym e.solver) i.holds;
    known = subst (λ s. AreKnown (length s.subst.slots.items) s.subst.types C.types) (sym e.solver) i.known;
    schemes = λ k s f. scheme-stays s.marks.items s.body (i.schemes k s f);
    entries = entry;
    numbered = number;
    live =
        subst (λ s. AllByRecursion (λ b. (v : ℕ) → is_in v (type_at s.subst.types b.1) ≡ true → (limit_at s.limits.items v).level < dead_level) C.types.tyvars) (sym e.solver)
        i.live;
    level = let a = e.level in let b = i.level in omega (arith, a, b);
    tidy = subst (IsTidy S) (sym e.level) (entered-tidy R.level R S low e i.tidy);
  }
    where
      entry : (qs : List ℕ) (x : Vid) (f : Entry) → entry_in (deeper C C.types) qs x ≡ Some f → IsHeld S (deeper C C.types) f
      entry [] x f q = held-stays C (deeper C C.types) refl f (i.entries [] x f q)
      entry (n ∷ []) x f q = held-stays C (deeper C C.types) refl f (i.entries (n ∷ []) x f q)
      entry (n ∷ m ∷ ns) x f q = held-stays C (deeper C C.types) refl f (i.entries (n ∷ m ∷ ns) x f q)

      number : (qs : List ℕ) (x : Vid) (f : Entry) → entry_in (deeper C C.types) qs x ≡ Some f → IsBelowIf S.next f
      number [] x f q = subst (λ n. IsBelowIf n f) (sym e.next) (i.numbered [] x f q)
      number (n ∷ []) x f q = subst (λ k. IsBelowIf k f) (sym e.next) (i.numbered (n ∷ []) x f q)
      number (n ∷ m ∷ ns) x f q = subst (λ k. IsBelowIf k f) (sym e.next) (i.numbered (n ∷ m ∷ ns) x f q)

-- with other type variables

tyvars-held : (T : State) (xs : List (ℕ × ℕ)) → AllByRecursion (λ b. HasType T b.1) xs → AllByRecursion (λ b. b.1 < length (types_in T)) xs
tyvars-held T [] h = tt
tyvars-held T (x ∷ xs) h = (h.0.held, tyvars-held T xs h.1)

tyvars-known : (T : State) (xs : List (ℕ × ℕ)) → AllByRecursion (λ b. HasType T b.1) xs → AllByRecursion (λ b. is_below (made T) (type_at (types_in T) b.1) ≡ true) xs
tyvars-known T [] h = tt
tyvars-known T (x ∷ xs) h = (h.0.below, tyvars-known T xs h.1)

tyvars-live : (T : State) (xs : List (ℕ × ℕ)) → AllByRecursion (λ b. HasType T b.1) xs → AllByRecursion (λ b. IsLive T b.1) xs
tyvars-live T [] h = tt
tyvars-live T (x ∷ xs) h = (h.0.live, tyvars-live T xs h.1)

held-same : (T : State) (C D : Context) → D.schemes ≡ C.schemes → (x : Entry) → IsHeld T C x → IsHeld T D x
held-same T C D q (Constructor s n y) h = subst (λ ks. s < length ks.items) (sym q) h
held-same T C D q (Reference s) h = subst (λ ks. s < length ks.items) (sym q) h
held-same T C D q (Initial s n) h = subst (λ ks. s < length ks.items) (sym q) h
held-same T C D q (Primitive s p) h = subst (λ ks. s < length ks.items) (sym q) h
held-same T C D q (Raised n a) h = h
held-same T C D q (Single t n) h = h
held-same T C D q (Own t n) h = h
held-same T C D q (General l t n o) h = h

with-tyvars : (T : State) (C : Context) (s : TypeScope) → s.types ≡ C.types.types → AllByRecursion (λ b. HasType T b.1) s.tyvars → IsContext T (deeper C C.types)
    → IsContext T (deeper C s)
with-tyvars T C s same are i = record {
  wide = i.wide;
  deep = i.deep;
  naming = i.naming;
  holds = record {
    tyvars = tyvars-held T s.tyvars are;
    bodies = subst (AllByRecursion (λ (b : ℕ × TypeEntry). b.1.body < length (types_in T))) (sym same) i.holds.bodies;
    closed = subst (AllByRecursion (λ (b : ℕ × TypeEntry). top (type_at (types_in T) b.1.body) ≤ b.1.arity)) (sym same) i.holds.closed;
  };
  known = tyvars-known T s.tyvars are;
  schemes = i.schemes;
  entries = entry;
  numbered = number;
  live = tyvars-live T s.tyvars are;
  level = i.level;
  tidy = i.tidy;
}
  where
    entry : (qs : List ℕ) (x : Vid) (f : Entry) → entry_in (deeper C s) qs x ≡ Some f → IsHeld T (deeper C s) f
    entry [] x f q = held-same T (deeper C C.types) (deeper C s) refl f (i.entries [] x f q)
    entry (n ∷ []) x f q = held-same T (deeper C C.types) (deeper C s) refl f (i.entries (n ∷ []) x f q)
    entry (n ∷ m ∷ ns) x f q = held-same T (deeper C C.types) (deeper C s) refl f (i.entries (n ∷ m ∷ ns) x f q)

    number : (qs : List ℕ) (x : Vid) (f : Entry) → entry_in (deeper C s) qs x ≡ Some f → IsBelowIf T.next f
    number [] x f q = i.numbered [] x f q
    number (n ∷ []) x f q = i.numbered (n ∷ []) x f q
    number (n ∷ m ∷ ns) x f q = i.numbered (n ∷ m ∷ ns) x f q

pub context-inside : (C : Context) (s : TypeScope) (R S T : State) → suc R.level < dead_level → Enters R S → Grows S T → IsContext R C → s.types ≡ C.types.types
    → AllByRecursion (λ b. HasType T b.1) s.tyvars → IsContext T (deeper C s)
context-inside C s R S T low e g i same are = with-tyvars T C s same are (context_later S T (deeper C C.types) g (entered-context R S e C low i))
