-- Annotations read in a context that tells of what is around a phrase.
use Rattle.std.proofs.Common.{◌≡◌, ◌<◌, ◌≤◌, ℕ, zero, suc, Bool, true, false, List, [], ◌∷◌, length, take, get_or, map, cond, Option, Some, None, nat_eq, refl, sym, ap, ap₂, subst, ◌∙◌, arith}
use Rattle.std.specs.Prelude.{option_map}
use Rattle.std.specs.List.{AllByRecursion}
use Rattle.std.specs.Map.{lookup}
use Rattle.ty_core.specs.Types.{Typ, Typs, var, con, none, more}
use Rattle.ty_core.specs.Marks.{is_inhabited}
use Rattle.ty_core.specs.declared.mark.Mark.{Mark}
use Rattle.ty_core.specs.declared.scheme.Quantified.{Quantified}
use Rattle.ty_core.specs.Statics.{TypeFunction, replace, replace_all}
use Rattle.ty_table.specs.TypeAt.{type_at}
use Rattle.ty_solve.specs.Substitution.{sub, subs, is_below}
use Rattle.ty_solve.proofs.Holding.{type-stays}
use Rattle.elab_steps.proofs.of_ty_instance.Going.{longer}
use Rattle.sml_tree.specs.BareTree.{Ty}
use Rattle.vid_scope.specs.of_core_rules.Objects.{at}
use Rattle.elab_steps.specs.of_elab_typed.Contexts.{Around, context_under}
use Rattle.elab_steps.specs.of_elab_typed.Elaborates.{Stands}
use Rattle.elab_steps.proofs.of_elab_typed.Closed.{types-under}
use Rattle.elab_steps.specs.of_elab_types.Reading.{entry_of, function_in, Reads}
use Rattle.elab_steps.specs.of_elab_types.Annotations.{IsTypeOf}
use Rattle.elab_steps.specs.of_elab_types.declared.scope.TypeEntry.{TypeEntry}
use Rattle.elab_steps.proofs.of_elab_types.Holding.{tyvar-held}
use Rattle.elab_steps.proofs.of_elab_types.Keeping.{holds_later, entry-held}
use Rattle.elab_steps.specs.of_ir_tables.Tables.{parameters_at, parameters_of}
use Rattle.elab_steps.specs.of_elab_state.Namings.{IsAmong}
use Rattle.elab_steps.specs.of_elab_state.States.{types_in, made}
use Rattle.elab_steps.specs.Growing.{HasGeneral, Begins, Grows}
use Rattle.elab_steps.specs.Instances.{IsScheme}
use Rattle.elab_steps.specs.of_elab_state.declared.state.State.{State}
use Rattle.elab_steps.specs.Tidy.{IsLive}
use Rattle.elab_steps.specs.World.{World, type_of, Comes}
use Rattle.elab_steps.proofs.Growing.{below-up, general_later, type_later}
use Rattle.sml_tree.specs.Terminal.{LongVid}
use Rattle.elab_context.specs.Entries.{entry_in}
use Rattle.elab_context.specs.Numbered.{IsBelowIf, IsNumbered}
use Rattle.elab_context.specs.Telling.{Tells, IsContext, IsHeld, IsHeldIf, HasList, IsUnboundIn, function_of, kept_of}
use Rattle.elab_context.specs.declared.entry.Entry.{Entry}
use Rattle.elab_context.specs.declared.entry.Entry.TheVariants.{Constructor, Reference, Initial, Primitive, Raised, Single, Own, General}
use Rattle.elab_context.specs.declared.context.Context.{Context}

mutual
  sub-twice : (s g : ℕ → Typ) (t : Typ) → replace s (sub g t) ≡ replace (λ v. replace s (g v)) t
  sub-twice s g (var v) = refl
  sub-twice s g (con y ts) = ap (con y) (subs-twice s g ts)

  subs-twice : (s g : ℕ → Typ) (ts : Typs) → replace_all s (subs g ts) ≡ replace_all (λ v. replace s (g v)) ts
  subs-twice s g none = refl
  subs-twice s g (more t ts) = ap₂ more (sub-twice s g t) (subs-twice s g ts)

at-map : (s : ℕ → Typ) (us : List (ℕ × Typ)) (a : ℕ) → at nat_eq (map (λ b. (b.0, replace s b.1)) us) a ≡ option_map (replace s) (at nat_eq us a)
at-map s [] a = refl
at-map s (u ∷ us) a = by (nat_eq a u.0) (at-map s us a)
  where
    by : (b : Bool) → at nat_eq (map (λ b. (b.0, replace s b.1)) us) a ≡ option_map (replace s) (at nat_eq us a)
        → cond b (Some (replace s u.1)) (at nat_eq (map (λ b. (b.0, replace s b.1)) us) a) ≡ option_map (replace s) (cond b (Some u.1) (at nat_eq us a))
    by true h = refl
    by false h = h

abbrev function_at : ℕ → Typ → TypeFunction
function_at n u = record { arity = n; body = u }

-- the scope of the code reads what is around, whatever the parameters in scope stand for
pub reads-around : (S : State) (C : Context) (W : World) (A : Around) → IsContext S C → Comes S W → Tells C W A → (s : ℕ → Typ)
    → Reads (types_in S) C.types (λ v. replace s (W.value v)) (context_under s A)
reads-around S C W A i c t s = record {
  tyvars = λ a. at-map s A.tyvars a ∙ ap (option_map (replace s)) (t.tyvars a) ∙ tyvar a (lookup (nat_eq a) C.types.tyvars) refl;
  types = λ qs x. ap (option_map (λ y. y.function)) (types-under s A qs x) ∙ t.types qs x ∙ type qs x (entry_of C.types qs x) refl;
}
  where
    tyvar : (a : ℕ) (o : Option ℕ) → lookup (nat_eq a) C.types.tyvars ≡ o
        → option_map (replace s) (option_map (type_of W) o) ≡ option_map (λ k. replace (λ v. replace s (W.value v)) (type_at (types_in S) k)) o
    tyvar a None e = refl
    tyvar a (Some k) e =
        ap Some (sub-twice s W.value (W.raw k) ∙ ap (replace (λ v. replace s (W.value v))) (c.types k (tyvar-held (types_in S) C.types i.holds a k e)))

    type : (qs : List ℕ) (x : ℕ) (o : Option TypeEntry) → entry_of C.types qs x ≡ o → option_map (function_of W) o ≡ option_map (function_in (types_in S)) o
    type qs x None e = refl
    type qs x (Some n) e = ap (λ (u : Typ). Some (function_at n.arity u)) (c.types n.body (entry-held (types_in S) C.types i.holds qs x n e))

-- so what an annotation is made is what it stands for
pub stands : (S T : State) (C : Context) (W : World) (A : Around) (ty : Ty) (r : ℕ) → IsContext S C → Comes S W → Comes T W → Tells C W A
    → IsTypeOf (types_in S) (types_in T) C.types ty r → Stands A ty (type_of W r)
stands S T C W A ty r i c d t is s =
    is.is (λ v. replace s (W.value v)) (context_under s A) (reads-around S C W A i c t s)
    ∙ ap (λ u. Some (replace (λ v. replace s (W.value v)) u)) (sym (d.types r is.held))
    ∙ ap Some (sym (sub-twice s W.value (W.raw r)))

known-later : (S T : State) → Grows S T → (xs : List (ℕ × ℕ)) → AllByRecursion (λ b. b.1 < length (types_in S)) xs
    → AllByRecursion (λ b. is_below (made S) (type_at (types_in S) b.1) ≡ true) xs → AllByRecursion (λ b. is_below (made T) (type_at (types_in T) b.1) ≡ true) xs
known-later S T g [] h k = tt
known-later S T g (x ∷ xs) h k = (
  subst (λ t. is_below (made T) t ≡ true) (sym (type-stays (types_in S) (types_in T) x.1 g.types h.0)) (below-up (made S) (made T) g.variables (type_at (types_in S) x.1) k.0),
  known-later S T g xs h.1 k.1,
)

live-later : (S T : State) → Grows S T → (xs : List (ℕ × ℕ)) → AllByRecursion (λ b. b.1 < length (types_in S)) xs
    → AllByRecursion (λ b. is_below (made S) (type_at (types_in S) b.1) ≡ true) xs → AllByRecursion (λ b. IsLive S b.1) xs → AllByRecursion (λ b. IsLive T b.1) xs
live-later S T g [] h k l = tt
live-later S T g (x ∷ xs) h k l =
    ((type_later S T x.1 g (record { held = h.0; below = k.0; live = l.0 })).live, live-later S T g xs h.1 k.1 l.1)

among-later : {A : Type 0} (xs ys : List A) (o : Option ℕ) → length xs ≤ length ys → IsAmong (length xs) o → IsAmong (length ys) o
among-later xs ys None le h = tt
among-later xs ys (Some k) le h = omega (arith, h, le)

longer-list : {A : Type 0} (xs ys : List A) → Begins xs ys → length xs ≤ length ys
longer-list [] ys e = omega arith
longer-list (x ∷ xs) [] e = cc
longer-list (x ∷ xs) (y ∷ ys) e = let h : take (length xs) ys ≡ xs = cc in let k = longer-list xs ys h in omega (arith, k)

scheme-later : (S T : State) (marks : List Mark) (body : ℕ) → Grows S T → IsScheme S marks body → IsScheme T marks body
scheme-later S T marks body g s = record {
  held = let le = longer (types_in S) (types_in T) g.types in let h = s.held in omega (arith, h, le);
  closed = subst (λ t. is_below (length marks) t ≡ true) (sym (type-stays (types_in S) (types_in T) body g.types s.held)) s.closed;
  inhabited = s.inhabited;
}

held-if-later : (S T : State) (o : Option ℕ) → Grows S T → IsHeldIf S o → IsHeldIf T o
held-if-later S T None g h = tt
held-if-later S T (Some t) g h = type_later S T t g h

same-list : {A : Type 0} (xs ys : List (List A)) (k : ℕ) → Begins xs ys → k < length xs → get_or ys k [] ≡ get_or xs k []
same-list [] ys k e lt = absurd (omega arith)
same-list (x ∷ xs) [] k e lt = cc
same-list (x ∷ xs) (y ∷ ys) zero e lt = let h : y ≡ x = cc in h
same-list (x ∷ xs) (y ∷ ys) (suc k) e lt = let h : take (length xs) ys ≡ xs = cc in same-list xs ys k h (omega arith)

list-later : (S T : State) (l : ℕ) → Grows S T → HasList S l → HasList T l
list-later S T l g h = record {
  held = let le = longer-list (parameters_of S.tables) (parameters_of T.tables) g.lists in let lt = h.held in omega (arith, lt, le);
  inhabited =
      subst (AllByRecursion (λ (q : Quantified). is_inhabited q.mark ≡ true))
      (sym (same-list (parameters_of S.tables) (parameters_of T.tables) l g.lists h.held)) h.inhabited;
}

held-later : (S T : State) (C : Context) (e : Entry) → Grows S T → IsHeld S C e → IsHeld T C e
held-later S T C (Constructor s n y) g h = h
held-later S T C (Reference s) g h = h
held-later S T C (Initial s n) g h = h
held-later S T C (Primitive s q) g h = h
held-later S T C (Raised n a) g h = held-if-later S T a g h
held-later S T C (Single t n) g h = type_later S T t g h
held-later S T C (Own t n) g h = type_later S T t g h
held-later S T C (General l t n o) g h = (
  subst (λ qs. HasGeneral T qs t) (sym (same-list (parameters_of S.tables) (parameters_of T.tables) l g.lists h.1.held))
      (general_later S T (parameters_at (parameters_of S.tables) l) t g h.0),
  list-later S T l g h.1,
)

pub below-later : (k j : ℕ) (e : Entry) → k ≤ j → IsBelowIf k e → IsBelowIf j e
below-later k j e le h n q = let lt = h n q in omega (arith, le, lt)

pub numbered_later : (k j : ℕ) (C : Context) → k ≤ j → IsNumbered k C → IsNumbered j C
numbered_later k j C le h qs x e q = below-later k j e le (h qs x e q)

pub context_later : (S T : State) (C : Context) → Grows S T → IsContext S C → IsContext T C
context_later S T C g i = record {
  wide = i.wide;
  deep = i.deep;
  naming = among-later S.namings.items T.namings.items C.naming (longer-list S.namings.items T.namings.items g.namings) i.naming;
  holds = holds_later (types_in S) (types_in T) C.types g.types i.holds;
  known = known-later S T g C.types.tyvars i.holds.tyvars i.known;
  schemes = λ k s e. scheme-later S T s.marks.items s.body g (i.schemes k s e);
  entries = λ qs x e h. held-later S T C e g (i.entries qs x e h);
  numbered = numbered_later S.next T.next C g.next i.numbered;
  live = live-later S T g C.types.tyvars i.holds.tyvars i.known i.live;
  level = subst (λ n. C.level ≤ n) (sym g.level) i.level;
  tidy = g.tidy i.tidy;
}

pub unbound_in : (C : Context) (x : LongVid) → entry_in C x.qualifiers x.vid ≡ None → IsUnboundIn C x
unbound_in C x e W A t = t.values x ∙ ap (option_map (kept_of C W)) e
