-- Bindings, one after the other.
use Rattle.std.proofs.Common.{◌≡◌, ◌≤◌, ◌&&◌, ℕ, true, false, List, [], ◌∷◌, ◌++◌, map, refl, sym, ap, ap₂, subst, ◌∙◌, arith}
use Rattle.std.specs.List.{AllByRecursion, list_all}
use Rattle.std.proofs.lemmas.List.{append_assoc, map-append}
use Rattle.mlc_base.specs.declared.place.Place.{Place}
use Rattle.ty_core.specs.Types.{Typ}
use Rattle.sml_tree.specs.BareTree as bare
use Rattle.sml_tree.specs.TreeOf.{RuleOf, binds_of}
use Rattle.sml_tree.specs.declared.ident.Vid.{Vid}
use Rattle.core_rules.specs.Choices.{Choices, no_choice, both}
use Rattle.core_rules.specs.Objects.{Env}
use Rattle.core_rules.specs.Typing.{Bound, is_non_expansive, settles, together}
use Rattle.ir_poly.specs.Prog as prog
use Rattle.ir_poly.specs.Types.{over, Constructor}
use Rattle.core_elab.specs.Scopes.{Scope, empty, scoped, typed_by, inside, plus_scope}
use Rattle.prog_tree.specs.TreeOf.{RuleTree, bind_of, binds_by, pat_of, tree_of}
use Rattle.prog_tree.specs.declared.tree.Binding.{Binding}
use Rattle.prog_tree.specs.declared.tree.Rule.{Rule}
use Rattle.prog_tree.proofs.ExpOf.{rule_of-parts}
use Rattle.elab_typed.specs.Numbers.{type_as}
use Rattle.elab_typed.specs.Contexts.{Around, generic}
use Rattle.elab_typed.specs.Elaborates.{BindsElab, ExpElab, PatElab, no_binds_elab, plain_elab}
use Rattle.elab_typed.specs.Instances.{as_typed}
use Rattle.elab_typed.proofs.Names.{over-as}
use Rattle.closed_types.specs.of_elab_state.declared.state.State.{State}
use Rattle.closed_types.specs.of_elab_steps.Growing.{Grows, Always}
use Rattle.closed_types.specs.of_elab_steps.World.{World, type_of}
use Rattle.closed_types.proofs.of_elab_steps.Growing.{grows_same, grows_on, comes_before}
use Rattle.exp_forms.specs.of_elab_context.Telling.{IsInUse}
use Rattle.exp_forms.specs.of_elab_context.declared.context.Context.{Context}
use Rattle.exp_forms.specs.of_pat_elab.Elaborated.{AreVariables, Elaborates, HasVariable, IsPat, bound_of, scope_of, scope_onto}
use Rattle.exp_forms.specs.of_pat_elab.declared.bound.BoundVariable.{BoundVariable}
use Rattle.exp_forms.specs.of_pat_elab.declared.bound.TypedPat.{TypedPat}
use Rattle.exp_forms.proofs.of_pat_elab.Forms.{all-later, onto-plus}
use Rattle.exp_forms.specs.of_use_elab.Elaborated.{ElaboratesExp, IsExp}
use Rattle.exp_forms.specs.of_use_elab.declared.typed.TypedExp.{TypedExp}
use Rattle.exp_forms.proofs.Calling.{written-as}
use Rattle.exp_forms.proofs.Lowering.{lowered}
use Rattle.exp_forms.proofs.Using.{variables-used}
use Rattle.dec_forms.proofs.After.{plus-plus}
use Rattle.dec_forms.specs.Binds.{EachBind, no_bind, one_bind, ElaboratesBinds, AreBinds, all_plus}

-- those of a list in a row

abbrev pub bind_choices : Env → List RuleOf → List (Choices × Choices) → Choices
bind_choices e (r ∷ rs) (c ∷ cs) = both (settles (is_non_expansive e r.exp) (both c.0 c.1)) (bind_choices e rs cs)
bind_choices e rs cs = no_choice

pub binds-do : {table : List Constructor} {A : Around} {g : ℕ → Typ} {h k i : ℕ} {rs : List RuleOf} {xs : List (Binding × RuleTree)} {vs : List Bound} {cs : List (Choices × Choices)} {qs : List Scope}
    → EachBind table A g h k rs xs vs cs qs i → BindsElab table A A h k (binds_of rs) (binds_by g xs) vs (bind_choices (generic A).env rs cs) (all_plus qs) i
binds-do no_bind = no_binds_elab
binds-do {table = table} {A = A} {g = g} {h = h} {k = k} {i = i} (one_bind {r = r} {rs = rs} {b = b} {x = x} {xs = xs} {t = t} {v = v} {vs = vs} {c = c} {d = d} {cs = cs} {q = q} {qs = qs} a e l o n w f) =
    subst (λ y. BindsElab table A A h k (binds_of (r ∷ rs)) (prog.a_bind b.place y x.pat (g b.ty) x.exp (binds_by g xs)) (v ∷ vs) (bind_choices (generic A).env (r ∷ rs) ((c, d) ∷ cs)) (all_plus (q ∷ qs)) i)
    (sym n)
    (subst (λ u. BindsElab table A A h k (binds_of (r ∷ rs)) (prog.a_bind b.place false x.pat u x.exp (binds_by g xs)) (v ∷ vs) (bind_choices (generic A).env (r ∷ rs) ((c, d) ∷ cs)) (all_plus (q ∷ qs)) i)
    (sym w) (plain_elab r.place b.place a e l o (binds-do f)))

each-snoc : {table : List Constructor} {A : Around} {g : ℕ → Typ} {h k i j : ℕ} {rs : List RuleOf} {xs : List (Binding × RuleTree)} {vs : List Bound} {cs : List (Choices × Choices)} {qs : List Scope}
    {t : Typ} {v : Bound} {c d : Choices} {q : Scope} (r : RuleOf) (b : Binding) (x : RuleTree) → EachBind table A g h k rs xs vs cs qs i → PatElab table A i r.pat x.pat t v c q j
    → ExpElab table A h r.exp x.exp t d → list_all (λ b. over A.parameters b.1) v ≡ true → over A.parameters (as_typed A t) ≡ true → b.general ≡ false → g b.ty ≡ as_typed A t
    → EachBind table A g h k (rs ++ r ∷ []) (xs ++ (b, x) ∷ []) (vs ++ v ∷ []) (cs ++ (c, d) ∷ []) (qs ++ q ∷ []) j
each-snoc r b x no_bind a e l o n w = one_bind a e l o n w no_bind
each-snoc r b x (one_bind a' e' l' o' n' w' f) a e l o n w = one_bind a' e' l' o' n' w' (each-snoc r b x f a e l o n w)

-- what is bound, and the scope

together-snoc : (vs : List Bound) (v : Bound) → together (vs ++ v ∷ []) ≡ together vs ++ v
together-snoc [] v = append-nil v
  where
    append-nil : (v : Bound) → v ++ [] ≡ v
    append-nil [] = refl
    append-nil (x ∷ v) = ap (λ l. x ∷ l) (append-nil v)
together-snoc (u ∷ vs) v = ap (λ l. u ++ l) (together-snoc vs v) ∙ sym (append_assoc u (together vs) v)

plus-left : (q : Scope) → plus_scope empty q ≡ q
plus-left empty = refl
plus-left (scoped x d q) = ap (scoped x d) (plus-left q)
plus-left (typed_by x c q) = ap (typed_by x c) (plus-left q)
plus-left (inside x c q) = ap (inside x c) (plus-left q)

all-plus-snoc : (qs : List Scope) (q : Scope) → all_plus (qs ++ q ∷ []) ≡ plus_scope (all_plus qs) q
all-plus-snoc [] q = sym (plus-left q)
all-plus-snoc (r ∷ qs) q = ap (plus_scope r) (all-plus-snoc qs q) ∙ sym (plus-plus r (all_plus qs) q)

onto-append : (s : Scope) (as_ bs : List BoundVariable) → scope_onto s (as_ ++ bs) ≡ scope_onto (scope_onto s as_) bs
onto-append s [] bs = refl
onto-append s (a ∷ as_) bs = onto-append (scoped a.vid (Rattle.core_elab.specs.Scopes.variable a.number) s) as_ bs

all-both : (P : BoundVariable → Type 0) (as_ bs : List BoundVariable) → AllByRecursion P as_ → AllByRecursion P bs → AllByRecursion P (as_ ++ bs)
all-both P [] bs h k = k
all-both P (a ∷ as_) bs h k = (h.0, all-both P as_ bs h.1 k)

pub all-over : (W : World) (A : Around) (bs : List BoundVariable) → AllByRecursion (λ b. IsInUse A (type_of W b.ty)) bs → list_all (λ (b : Vid × Typ). over A.parameters b.1) (bound_of W bs) ≡ true
all-over W A [] h = refl
all-over W A (b ∷ bs) h = ap₂ (λ x y. x && y) h.0.parameters (all-over W A bs h.1)

-- none, and one more

pub no_binds_are : (S : State) (C : Context) (bs : List BoundVariable) (xs : List (Binding × Rule)) → bs ≡ [] → xs ≡ [] → AreBinds S C [] S bs xs
no_binds_are S C bs xs p q = subst (λ bs. AreBinds S C [] S bs xs) (sym p) (subst (AreBinds S C [] S []) (sym q) (record {
  grows = grows_same S;
  have = tt;
  gives = λ W c A t. record { types = []; choices = []; scopes = []; elab = λ h le. record { next = h; most = le; elab = no_bind }; bound = refl; scope = refl; used = tt };
}))

at-most : (i j k : ℕ) → i ≤ j → j ≤ k → i ≤ k
at-most i j k h l = omega arith

bind-made : (W : World) (A : Around) (k m n j : ℕ) (rs : List RuleOf) (xs : List (Binding × RuleTree)) (before added : List BoundVariable) (r : RuleOf) (b : Binding) (x : RuleTree) (t : Typ)
    → k ≤ n → n ≤ j → ElaboratesBinds W A k rs xs before m → Elaborates W A m r.pat x.pat t added n → ElaboratesExp W A n r.exp x.exp t → b.general ≡ false → W.reading.type b.ty ≡ as_typed A t
    → ElaboratesBinds W A k (rs ++ r ∷ []) (xs ++ (b, x) ∷ []) (before ++ added) j
bind-made W A k m n j rs xs before added r b x t le up h a e g w =
    let used = variables-used W A added a.elab a.parameters in
    record {
      types = h.types ++ bound_of W added ∷ [];
      choices = h.choices ++ (a.choices, e.choices) ∷ [];
      scopes = h.scopes ++ scope_of added ∷ [];
      elab = λ i l.
          let f = h.elab i l in
          let low = lowered W.table A f.next f.most a.elab in
          record {
            next = low.next;
            most = at-most low.next n j low.most up;
            elab = each-snoc r b x f.elab low.elab (e.elab i (at-most i k n l le)) (all-over W A added used) (over-as A.number A.parameters t ∙ a.parameters) g w;
          };
      bound = together-snoc h.types (bound_of W added) ∙ ap (λ l. l ++ bound_of W added) h.bound ∙ sym (map-append (λ (b : BoundVariable). (b.vid, type_of W b.ty)) before added);
      scope =
          all-plus-snoc h.scopes (scope_of added) ∙ ap (λ s. plus_scope s (scope_of added)) h.scope ∙ sym (onto-plus (scope_of before) added) ∙ sym (onto-append empty before added);
      used = all-both (λ b. IsInUse A (type_of W b.ty)) before added h.used used;
    }

pub bind_added : (S M P N U T : State) (C : Context) (rs : List RuleOf) (p place : Place) (a : bare.Pat) (e : bare.Exp) (before after : List BoundVariable) (old new : List (Binding × Rule))
    (pat : TypedPat) (exp : TypedExp) (written : ℕ) → AreBinds S C rs M before old → IsPat M C a P before after pat → IsExp P C e N exp → Grows N U
    → Always U (λ W. type_of W exp.ty ≡ type_of W pat.ty) → Grows U T → Always T (λ W. W.reading.type written ≡ type_as (W.naming C.naming) (type_of W pat.ty))
    → new ≡ old ++ (record { place = place; general = false; ty = written }, record { pat = pat.pat; exp = exp.exp }) ∷ []
    → AreBinds S C (rs ++ record { place = p; pat = a; exp = e } ∷ []) T after new
bind_added S M P N U T C rs p place a e before after old new pat exp written h i x gu same gt wr it =
    let nt = grows_on N U T gu gt in
    let pt = grows_on P N T x.grows nt in
    let mt = grows_on M P T i.grows pt in
    record {
      grows = grows_on S M T h.grows mt;
      have =
          subst (AreVariables T) (sym i.bound)
          (all-both (HasVariable T) before i.added (all-later M T mt before h.have) (all-later P T pt i.added i.have));
      gives = λ W c A t.
          let R = W.reading in
          let xs = map (bind_of R) old in
          let r : RuleOf = record { place = p; pat = a; exp = e } in
          let b : Binding = record { place = place; general = false; ty = written } in
          let y : RuleTree = record { pat = pat_of R pat.pat; exp = tree_of R exp.exp } in
          let k = i.gives W (comes_before P T W pt c) A t in
          let f = x.gives W (comes_before N T W nt c) A t in
          let g : ElaboratesExp W A P.next e y.exp (type_of W pat.ty) = subst (λ z. ElaboratesExp W A P.next e y.exp z) (same W (comes_before U T W gt c)) f in
          let whole = bind-made W A S.next M.next P.next T.next rs xs before i.added r b y (type_of W pat.ty) (at-most S.next M.next P.next h.grows.next i.grows.next) pt.next
          (h.gives W (comes_before M T W mt c) A t) k g refl (wr W c ∙ written-as C W A (type_of W pat.ty) t) in
          let is : map (bind_of R) new ≡ xs ++ (b, y) ∷ [] =
          ap (map (bind_of R)) it ∙ map-append (bind_of R) old ((b, record { pat = pat.pat; exp = exp.exp }) ∷ [])
          ∙ ap (λ (z : RuleTree). xs ++ (b, z) ∷ []) (rule_of-parts R (record { pat = pat.pat; exp = exp.exp })) in
          subst (λ l. ElaboratesBinds W A S.next (rs ++ r ∷ []) l after T.next) (sym is)
          (subst (λ l. ElaboratesBinds W A S.next (rs ++ r ∷ []) (xs ++ (b, y) ∷ []) l T.next) (sym i.bound) whole);
    }
