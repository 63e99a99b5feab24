-- What a context tells inside a declaration.
use Rattle.std.proofs.Common.{◌≡◌, ◌||◌, ℕ, suc, Bool, true, false, nat_eq, if◌then◌else◌, List, [], ◌∷◌, ◌++◌, map, Option, Some, None, refl, sym, ap, ap₂, ◌∙◌, arith}
use Rattle.std.specs.Prelude.{option_map}
use Rattle.std.specs.Map.{lookup}
use Rattle.std.proofs.lemmas.Bool.{lt-ltb, eq-eqb}
use Rattle.ty_core.specs.Types.{Typ}
use Rattle.ty_core.specs.Statics.{replace}
use Rattle.ty_core.specs.declared.scheme.Quantified.{Quantified}
use Rattle.sml_tree.specs.BareTree as bare
use Rattle.sml_tree.specs.declared.ident.Tyvar.{Tyvar}
use Rattle.core_rules.specs.Objects.{Context as RulesContext, Map}
use Rattle.core_rules.specs.Typing.{scoped_in}
use Rattle.ir_poly.specs.Types.{in_scope}
use Rattle.elab_typed.specs.Contexts.{Around, IsOver, context_under, generic}
use Rattle.elab_typed.specs.Elaborates.{inner, scoped_as}
use Rattle.elab_types.specs.Reading.{entry_of}
use Rattle.elab_types.specs.declared.scope.TypeScope.{TypeScope}
use Rattle.elab_state.specs.Generalising.{inside}
use Rattle.elab_state.proofs.Generalising.{scope-front, scope-behind}
use Rattle.elab_state.proofs.Solving.{over-more}
use Rattle.elab_steps.specs.World.{World, type_of}
use Rattle.elab_steps.proofs.Changing.{begins-same}
use Rattle.elab_context.specs.Entries.{entry_in}
use Rattle.elab_context.proofs.Contents.{has_constructors_still, has_contents_still}
use Rattle.elab_context.specs.Telling.{Tells, IsFit, IsInUse, kept_of, known_of, function_of}
use Rattle.elab_context.specs.declared.context.Context.{Context}
use Rattle.elab_context.specs.declared.entry.Entry.{Entry}
use Rattle.elab_context.specs.declared.entry.Entry.TheVariants.{Constructor, Reference, Initial, Primitive, Raised, Single, Own, General}
use Rattle.general_worlds.specs.Inner.{IsInside, inner_world, deeper, HasTyvars}

-- parameters in front of a list that stands behind others
pub scope-between : (ps qs rs : List Quantified) (v : ℕ) → in_scope (ps ++ rs) v ≡ true → in_scope (ps ++ (qs ++ rs)) v ≡ true
scope-between [] qs rs v i = scope-behind qs rs v i
scope-between (p ∷ ps) qs rs v i = by (nat_eq p.variable v) i (scope-between ps qs rs v)
  where
    by : (b : Bool) → (b || in_scope (ps ++ rs) v) ≡ true → (in_scope (ps ++ rs) v ≡ true → in_scope (ps ++ (qs ++ rs)) v ≡ true) → (b || in_scope (ps ++ (qs ++ rs)) v) ≡ true
    by true i f = refl
    by false i f = f i

-- what is around there speaks of no parameters but those in scope

abbrev replaced : (ℕ → Typ) → Map ℕ Typ → Map ℕ Typ
replaced s us = map (λ a. (a.0, replace s a.1)) us

replaced-append : (s : ℕ → Typ) (us ts : Map ℕ Typ) → replaced s (us ++ ts) ≡ replaced s us ++ replaced s ts
replaced-append s [] ts = refl
replaced-append s (u ∷ us) ts = ap (λ l. (u.0, replace s u.1) ∷ l) (replaced-append s us ts)

scoped-same : (as_ : List Tyvar) (qs : List Quantified) (s f : ℕ → Typ) → ((v : ℕ) → in_scope qs v ≡ true → s v ≡ f v) → replaced s (scoped_as as_ qs) ≡ replaced f (scoped_as as_ qs)
scoped-same [] qs s f h = refl
scoped-same (a ∷ as_) [] s f h = refl
scoped-same (a ∷ as_) (q ∷ qs) s f h =
    ap₂ (λ t us. (a.name, t) ∷ us) (h q.variable (ap (λ b. b || in_scope qs q.variable) (eq-eqb q.variable q.variable refl)))
    (scoped-same as_ qs s f (λ v i. h v (scope-behind (q ∷ []) qs v i)))

pub inner-over : (A : Around) (qs : List Quantified) (as_ : List Tyvar) (bs rs : bare.Binds) → IsOver A → IsOver (inner A as_ bs rs qs)
inner-over A qs as_ bs rs o s f a =
    let xs = scoped_in (generic A) as_ bs rs in
    let out : context_under s A ≡ context_under f A = o s f (λ v i. a v (scope-behind qs A.parameters v i)) in
    let tys : replaced s (scoped_as xs qs ++ A.tyvars) ≡ replaced f (scoped_as xs qs ++ A.tyvars) =
    replaced-append s (scoped_as xs qs) A.tyvars
    ∙ ap₂ (λ l k. l ++ k) (scoped-same xs qs s f (λ v i. a v (scope-front qs A.parameters v i))) (ap (λ (c : RulesContext). c.tyvars) out)
    ∙ sym (replaced-append f (scoped_as xs qs) A.tyvars) in
    ap₂ (λ (c : RulesContext) (us : Map ℕ Typ). record c { tyvars = us }) out tys

module _ (C : Context) (s : TypeScope) (W : World) (A : Around) (qs : List Quantified) (h : IsInside W C.level qs) (as_ : List Tyvar) (bs rs : bare.Binds) where
  abbrev V : World
  V = inner_world W C.level qs h

  abbrev B : Around
  B = inner A as_ bs rs qs

  kept-same : (e : Entry) → kept_of (deeper C s) V e ≡ kept_of C W e
  kept-same (Constructor k n y) = refl
  kept-same (Reference k) = refl
  kept-same (Initial k n) = refl
  kept-same (Primitive k q) = refl
  kept-same (Raised n a) = refl
  kept-same (Single t n) = refl
  kept-same (Own t n) = refl
  kept-same (General l t n o) = refl

  kept-same-if : (o : Option Entry) → option_map (kept_of C W) o ≡ option_map (kept_of (deeper C s) V) o
  kept-same-if None = refl
  kept-same-if (Some e) = ap Some (sym (kept-same e))

  known-same : (e : Entry) → known_of V B e ≡ known_of W A e
  known-same (Constructor k n y) = refl
  known-same (Reference k) = refl
  known-same (Initial k n) = refl
  known-same (Primitive k q) = refl
  known-same (Raised n a) = refl
  known-same (Single t n) = refl
  known-same (Own t n) = refl
  known-same (General l t n true) = refl
  known-same (General l t n false) = refl

  in-use : (t : Typ) → IsInUse A t → IsInUse B t
  in-use t u = record { names = u.names; parameters = over-more A.parameters (qs ++ A.parameters) (λ v. scope-behind qs A.parameters v) t u.parameters }

  fit-same : (e : Entry) → IsFit C W A e → IsFit (deeper C s) V B e
  fit-same (Constructor k n y) f = record { argument = f.argument; general = f.general; body = f.body; names = f.names; row = f.row }
  fit-same (Reference k) f = f
  fit-same (Initial k n) f = f
  fit-same (Primitive k q) f = record { body = f.body; marks = f.marks }
  fit-same (Raised n None) f = tt
  fit-same (Raised n (Some k)) f = in-use (type_of W k) f
  fit-same (Single t n) f = in-use (type_of W t) f
  fit-same (Own t n) f = in-use (type_of W t) f
  fit-same (General l t n o) f = record {
    marks = f.marks;
    names = f.names;
    body = over-more (W.reading.parameters l ++ A.parameters) (W.reading.parameters l ++ (qs ++ A.parameters)) (scope-between (W.reading.parameters l) qs A.parameters) (type_of W t) f.body;
    parts = f.parts;
    none = f.none;
  }

  inside-here : inside W.parameters C.level qs (suc C.level) ≡ qs ++ W.parameters C.level
  inside-here = ap (λ b. if b then qs ++ W.parameters C.level else W.parameters (suc C.level)) (lt-ltb C.level (suc C.level) (omega arith))

  pub tells-inside : s.types ≡ C.types.types → HasTyvars W s B → Tells C W A → Tells (deeper C s) V B
  tells-inside same tyvars t = record {
    names = t.names;
    number = t.number;
    numbers = t.numbers;
    initial = t.initial;
    built = t.built;
    parameters = ap (λ ps. qs ++ ps) t.parameters ∙ sym inside-here;
    values = λ x. t.values x ∙ kept-same-if (entry_in C x.qualifiers x.vid);
    denotes = t.denotes;
    fit = λ x e f. fit-same e (t.fit x e f);
    known = λ x e n k f g. t.known x e n k f (sym (known-same e) ∙ g);
    tyvars = tyvars;
    types = λ ps x. t.types ps x ∙ ap (option_map (function_of W)) (entry-same ps x);
    constructors = λ x e f.
        has_constructors_still C (deeper C s) W V A B e _ _ _ _ (begins-same C.schemes.items C.schemes.items refl) (λ d g. kept-same d) (λ d g. fit-same d g) refl refl
        (t.constructors x e (entry-same [] x ∙ f));
    structures = λ q k f. has_contents_still C (deeper C s) q _ _ _ _ _ _ refl (λ x. refl) refl refl (t.structures q k f);
    over = inner-over A qs as_ bs rs t.over;
  }
    where
      entry-same : (ps : List ℕ) (x : ℕ) → entry_of C.types ps x ≡ entry_of s ps x
      entry-same [] x = sym (ap (lookup (nat_eq x)) same)
      entry-same (p ∷ ps) x = refl
