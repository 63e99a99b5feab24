-- Bindings inside their declaration, and the declaration of them.
use Rattle.std.proofs.Common.{◌≡◌, ◌<◌, ◌≤◌, ◌+◌, ◌-◌, ℕ, suc, Bool, true, false, List, [], ◌∷◌, ◌++◌, map, take, length, get_or, refl, sym, ap, subst, ◌∙◌, arith}
use Rattle.sml_tree.specs.TreeOf.{RuleOf, bind_of, exp_of, pat_of}
use Rattle.sml_tree.specs.declared.ident.Tyvar.{Tyvar}
use Rattle.sml_tree.specs.declared.tree.Bind.{Bind}
use Rattle.prog_tree.specs.declared.tree.Binding.{Binding}
use Rattle.prog_tree.specs.declared.tree.Rule.{Rule}
use Rattle.elab_types.proofs.Lists.{all-map, next-map-at}
use Rattle.elab_types.specs.declared.scope.TypeScope.{TypeScope}
use Rattle.elab_state.specs.States.{made as made_in}
use Rattle.elab_state.specs.declared.state.State.{State}
use Rattle.elab_steps.specs.Growing.{Grows}
use Rattle.elab_steps.specs.Tidy.{IsTidy}
use Rattle.elab_steps.proofs.Growing.{grows_on, grows_same}
use Rattle.elab_context.specs.Telling.{IsContext}
use Rattle.elab_context.specs.declared.context.Context.{Context}
use Rattle.pat_elab.specs.Elaborated.{IsPat}
use Rattle.pat_elab.specs.declared.bound.BoundVariable.{BoundVariable}
use Rattle.pat_elab.specs.declared.bound.TypedPat.{TypedPat}
use Rattle.use_elab.specs.Elaborated.{IsExp}
use Rattle.use_elab.specs.declared.typed.TypedExp.{TypedExp}
use Rattle.scope_decs.proofs.of_exp_forms.Nodes.{bind-is}
use Rattle.general_decs.specs.of_general_worlds.Inner.{deeper}
use Rattle.general_decs.specs.of_general_worlds.Tidy.{AreOuter, Enters}
use Rattle.general_decs.proofs.of_general_worlds.Declaring.{earlier-outer}
use Rattle.general_decs.specs.Inside.{AreInside, StandBehind}
use Rattle.general_decs.specs.Outside.{outside}
use Rattle.general_decs.specs.Scoped.{IsBegun}
use Rattle.general_decs.specs.Values.{IsGeneralised}
use Rattle.general_decs.specs.declared.begin.Begun.{Begun}
use Rattle.general_decs.proofs.Adding.{none_are_inside}
use Rattle.general_decs.proofs.Stepping.{deeper_is, outside_named}
use Rattle.elab_exps.specs.Decs.{StandsIn}
use Rattle.elab_exps.specs.Inside.{AreBound, IsWithin}
use Rattle.elab_exps.specs.declared.inside.Inside.{Inside}
use Rattle.elab_exps.proofs.Loops.{exp_in, same-at}

rule-of : (b : Bind) → bind_of b ≡ record { place = b.place; pat = pat_of b.pat; exp = exp_of b.exp }
rule-of = bind-is

-- one binding more, its expression and then its pattern
module _ (S N P V T : State) (D E : Context) (n : ℕ) (rs : List RuleOf) (b : Bind) (g : Bool) (pat : TypedPat) (exp : TypedExp) (before after : List BoundVariable) (fs gs : List Bool)
    (xs ys : List (Binding × Rule)) (deep : 0 < D.level) (same : E ≡ D) (pv : Grows P V) (x : IsExp N D (exp_of b.exp) P exp)
    (h : AreInside S (outside D n) D.types rs N before fs xs) where
  abbrev C : Context
  C = outside D n

  abbrev inner : Context
  inner = deeper C D.types

  is-inner : D ≡ inner
  is-inner = deeper_is D n deep

  abbrev r : RuleOf
  r = record { place = b.place; pat = pat_of b.pat; exp = exp_of b.exp }

  behind : (F : Context) → IsPat P F (pat_of b.pat) V before after pat → StandBehind N F inner r before after pat exp V
  behind F p = record {
    pat_from = P;
    pat_to = V;
    exp_from = N;
    exp_to = P;
    first = x.grows;
    pattern = p;
    last = grows_same V;
    exp_first = grows_same N;
    expression = subst (λ z. IsExp N z (exp_of b.exp) P exp) is-inner x;
    exp_last = pv;
  }

  as-bind : AreInside S C D.types (rs ++ r ∷ []) T after gs ys → AreInside S C D.types (rs ++ bind_of b ∷ []) T after gs ys
  as-bind k = subst (λ z. AreInside S C D.types (rs ++ z ∷ []) T after gs ys) (sym (rule-of b)) k

  binding_added : (g ≡ true → IsGeneralised P D (exp_of b.exp) exp.exp) → (g ≡ true → IsPat P D (pat_of b.pat) V before after pat) → (g ≡ false → IsPat P C (pat_of b.pat) V before after pat)
      → (g ≡ true → (S N Z : State) (C : Context) (s : TypeScope) (rs : List RuleOf) (r : RuleOf) (before : List BoundVariable) → E ≡ deeper C s → AreInside S C s rs N before fs xs
      → StandBehind N (deeper C s) (deeper C s) r before after pat exp V → Grows Z V → IsGeneralised Z (deeper C s) r.exp exp.exp → AreInside S C s (rs ++ r ∷ []) T after gs ys)
      → (g ≡ false → (S N : State) (C : Context) (s : TypeScope) (rs : List RuleOf) (r : RuleOf) (before : List BoundVariable) → E ≡ deeper C s → AreInside S C s rs N before fs xs
      → StandBehind N C (deeper C s) r before after pat exp V → AreInside S C s (rs ++ r ∷ []) T after gs ys)
      → AreInside S C D.types (rs ++ bind_of b ∷ []) T after gs ys
  binding_added general inside outer added plain = by g refl
    where
      by : (f : Bool) → g ≡ f → AreInside S C D.types (rs ++ bind_of b ∷ []) T after gs ys
      by true e =
          as-bind
          (added e S N P C D.types rs r before (same ∙ is-inner) h (behind inner (subst (λ z. IsPat P z (pat_of b.pat) V before after pat) is-inner (inside e))) pv
          (subst (λ z. IsGeneralised P z (exp_of b.exp) exp.exp) is-inner (general e)))
      by false e = as-bind (plain e S N C D.types rs r before (same ∙ is-inner) h (behind C (outer e)))

  -- what is bound, as a slice sees it
  pub binding_made : (bound : List BoundVariable) → after ≡ bound → (g ≡ true → IsGeneralised P D (exp_of b.exp) exp.exp) → (g ≡ true → IsPat P D (pat_of b.pat) V before bound pat)
      → (g ≡ false → IsPat P C (pat_of b.pat) V before bound pat)
      → (g ≡ true → (S N Z : State) (C : Context) (s : TypeScope) (rs : List RuleOf) (r : RuleOf) (before : List BoundVariable) → E ≡ deeper C s → AreInside S C s rs N before fs xs
      → StandBehind N (deeper C s) (deeper C s) r before after pat exp V → Grows Z V → IsGeneralised Z (deeper C s) r.exp exp.exp → AreInside S C s (rs ++ r ∷ []) T after gs ys)
      → (g ≡ false → (S N : State) (C : Context) (s : TypeScope) (rs : List RuleOf) (r : RuleOf) (before : List BoundVariable) → E ≡ deeper C s → AreInside S C s rs N before fs xs
      → StandBehind N C (deeper C s) r before after pat exp V → AreInside S C s (rs ++ r ∷ []) T after gs ys)
      → AreInside S C D.types (rs ++ bind_of b ∷ []) T bound gs ys
  binding_made bound q general inside outer added plain =
      subst (λ z. AreInside S C D.types (rs ++ bind_of b ∷ []) T z gs ys) q
      (binding_added general (λ e. subst (λ z. IsPat P D (pat_of b.pat) V before z pat) (sym q) (inside e)) (λ e. subst (λ z. IsPat P C (pat_of b.pat) V before z pat) (sym q) (outer e)) added
      plain)

-- bindings, one after the other

pub none_bound : (S : State) (D : Context) (begun : Begun) (made : Inside) → made.bound.items ≡ [] → made.flags.items ≡ [] → made.binds.items ≡ [] → AreBound S D begun [] S made
none_bound S D begun made b f x =
    subst (λ z. AreInside S (outside D begun.tyvars) D.types [] S z made.flags.items made.binds.items) (sym b)
    (subst (λ z. AreInside S (outside D begun.tyvars) D.types [] S [] z made.binds.items) (sym f)
    (subst (λ z. AreInside S (outside D begun.tyvars) D.types [] S [] [] z) (sym x) (none_are_inside S (outside D begun.tyvars) D.types)))

pub record BoundSoFar (S : State) (C : Context) (begun : Begun) (rs : List RuleOf) (T : State) (D : Context) (made : Inside) : Type 0 where
  pub same : D ≡ C
  pub are : AreBound S C begun rs T made

pub bound_more : (S M N T : State) (C D E F : Context) (begun : Begun) (bs : List Bind) (i : ℕ) (b d : Bind) (exp : TypedExp) (old new : Inside) → i < length bs
    → b ≡ get_or bs i b → BoundSoFar S C begun (map bind_of (take i bs)) M D old → E ≡ D → IsExp M D (exp_of (get_or bs i d).exp) N exp → F ≡ E
    → ((S N' : State) (rs : List RuleOf) → AreBound S E begun rs N' old → IsExp N' E (exp_of b.exp) N exp → AreBound S E begun (rs ++ bind_of b ∷ []) T new)
    → BoundSoFar S C begun (map bind_of (take (i + 1) bs)) T F new
bound_more S M N T C D E F begun bs i b d exp old new lt ib h e x f add =
    let q : E ≡ C = e ∙ h.same in
    let is : get_or bs i d ≡ b = same-at bs i d b lt ∙ sym ib in
    let y = subst (λ (z : Bind). IsExp M D (exp_of z.exp) N exp) is x in
    let k = add S M (map bind_of (take i bs)) (subst (λ z. AreBound S z begun (map bind_of (take i bs)) M old) (sym q) h.are) (exp_in M N E D (exp_of b.exp) exp (sym e) y) in
    record {
      same = f ∙ q;
      are = subst (λ l. AreBound S C begun l T new) (sym (next-map-at bind_of bs i d lt ∙ ap (λ (z : Bind). map bind_of (take i bs) ++ bind_of z ∷ []) is))
          (subst (λ z. AreBound S z begun (map bind_of (take i bs) ++ bind_of b ∷ []) T new) q k);
    }

pub all_bound : (S T : State) (C D : Context) (begun : Begun) (bs : List Bind) (i : ℕ) (made : Inside) → length bs ≤ i → BoundSoFar S C begun (map bind_of (take i bs)) T D made
    → AreBound S C begun (map bind_of bs) T made
all_bound S T C D begun bs i made le h = subst (λ l. AreBound S C begun l T made) (all-map bind_of bs i le) h.are

pub within_on : (C D : Context) (begun : Begun) (scoped : List Tyvar) → IsWithin C begun scoped → D ≡ C → IsWithin D begun scoped
within_on C D begun scoped h q = subst (λ z. IsWithin z begun scoped) (sym q) h

-- the declaration

pub begun_within : (S M : State) (C D : Context) (begun : Begun) (scoped : List Tyvar) → begun.tyvars ≡ length C.types.tyvars → IsBegun S C scoped M D → IsWithin D begun scoped
begun_within S M C D begun scoped e b = record {
  inside = let l : D.level ≡ suc C.level = ap (λ (k : Context). k.level) b.deep in omega (arith, l);
  named = outside_named S M C D scoped begun.tyvars e b;
}

pub begun_stands : (S M : State) (C D : Context) (scoped : List Tyvar) → StandsIn S C → IsContext M D → IsBegun S C scoped M D → StandsIn M D
begun_stands S M C D scoped h i b = record {
  context = i;
  level =
      let l : D.level ≡ suc C.level = ap (λ (k : Context). k.level) b.deep in
      let g = b.grows.level in let e = b.enters.level in let s = h.level in omega (arith, l, g, e, s);
}

entered-made : (S E : State) → Enters S E → made_in E ≡ made_in S
entered-made S E e = ap (λ s. length s.subst.slots.items) e.solver

pub first_made : (S M N : State) (C D : Context) (scoped : List Tyvar) (first : ℕ) → first ≡ made_in S → IsBegun S C scoped M D → Grows M N → first ≤ made_in N
first_made S M N C D scoped first e b g =
    let a = entered-made S b.entered b.enters in
    let u = b.grows.variables in
    let v = g.variables in omega (arith, e, a, u, v)

pub first_outer : (S M N : State) (C D E : Context) (scoped : List Tyvar) (first : ℕ) → first ≡ made_in S → StandsIn S C → IsBegun S C scoped M D → Grows M N → E ≡ D
    → AreOuter N (E.level - 1) first
first_outer S M N C D E scoped first e h b g q =
    let l : D.level ≡ suc C.level = ap (λ (k : Context). k.level) b.deep in
    let m : E.level ≡ D.level = ap (λ (k : Context). k.level) q in
    let same : C.level ≡ E.level - 1 = omega (arith, l, m) in
    subst (AreOuter N (E.level - 1)) (sym e)
    (subst (λ k. AreOuter N k (made_in S)) same
    (earlier-outer C.level S b.entered N b.enters (grows_on b.entered M N b.grows g) (subst (IsTidy S) h.level h.context.tidy)))
