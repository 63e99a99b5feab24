-- Rules, one after the other.
use Rattle.std.proofs.Common.{◌≡◌, ◌≤◌, ◌<◌, ℕ, true, List, [], ◌∷◌, ◌++◌, map, refl, sym, ap, subst, ◌∙◌, arith}
use Rattle.std.proofs.lemmas.Bool.{lt-ltb}
use Rattle.std.proofs.lemmas.List.{map-append}
use Rattle.mlc_base.specs.declared.place.Place.{Place}
use Rattle.ty_core.specs.Types.{Typ}
use Rattle.ty_basis.specs.Types.{exn_type}
use Rattle.ty_solve.specs.declared.limit.Limit.{Limit}
use Rattle.sml_tree.specs.BareTree as bare
use Rattle.sml_tree.specs.TreeOf.{RuleOf, rules_of}
use Rattle.core_rules.specs.Choices.{Choices, no_choice, both}
use Rattle.core_rules.specs.Restrictions.{distinct}
use Rattle.core_rules.specs.Typing.{Bound, bound_in, AreDistinct}
use Rattle.core_rules.specs.Words.{same_vid}
use Rattle.ir_poly.specs.ProgChecked.{pat_onto}
use Rattle.ir_poly.specs.TestsChecked.{of_type}
use Rattle.ir_poly.specs.Types.{Constructor}
use Rattle.core_elab.specs.Scopes.{Scope}
use Rattle.prog_tree.specs.TreeOf.{RuleTree, pat_of, tree_of, rule_of}
use Rattle.prog_tree.specs.TreeOf as tree
use Rattle.prog_tree.specs.declared.tree.Rule.{Rule}
use Rattle.prog_tree.proofs.ExpOf.{rule_of-parts}
use Rattle.elab_typed.specs.Contexts.{Around, with_bound}
use Rattle.elab_typed.specs.Elaborates.{ExpElab, PatElab, RulesElab, a_rule_elab, no_rules_elab}
use Rattle.elab_typed.specs.Instances.{as_typed}
use Rattle.pat_elab.specs.of_elab_state.declared.state.State.{State}
use Rattle.pat_elab.specs.of_elab_steps.Growing.{HasType, Grows, Always, IsWithin}
use Rattle.pat_elab.specs.of_elab_steps.World.{World, type_of, Comes}
use Rattle.pat_elab.proofs.of_elab_steps.Growing.{grows_on, type_later, comes_before}
use Rattle.pat_elab.specs.of_elab_context.Entries.{limit_of}
use Rattle.pat_elab.specs.of_elab_context.Telling.{Tells, IsContext, IsInUse}
use Rattle.pat_elab.specs.of_elab_context.declared.context.Context.{Context}
use Rattle.pat_elab.specs.Elaborated.{Elaborates, IsPat, bound_of, scope_of}
use Rattle.pat_elab.specs.declared.bound.BoundVariable.{BoundVariable}
use Rattle.pat_elab.specs.declared.bound.TypedPat.{TypedPat}
use Rattle.use_elab.specs.Elaborated.{ElaboratesExp, IsExp}
use Rattle.use_elab.specs.declared.typed.TypedExp.{TypedExp}
use Rattle.exp_forms.proofs.Calling.{new-names, new-parameters}
use Rattle.exp_forms.specs.Within.{within}
use Rattle.exp_forms.proofs.Knowing.{pattern-binds}
use Rattle.exp_forms.proofs.Lowering.{lowered}
use Rattle.exp_forms.proofs.Within.{tells_within}
use Rattle.pat_elab.specs.of_elab_context.Numbered.{IsNumbered}
use Rattle.exp_forms.specs.Rules.{EachRule, no_rule, one_rule, ElaboratesRules, AreRules, IsEntered, vids_of}
use Rattle.exp_forms.specs.declared.rules_made.RulesMade.{RulesMade}
use Rattle.exp_forms.proofs.Using.{variables-used}
use Rattle.exp_forms.proofs.Entering.{number-known}

-- those of a list in a row

abbrev pub choices_of : List (Choices × Choices) → Choices
choices_of [] = no_choice
choices_of (c ∷ cs) = both c.0 (both c.1 (choices_of cs))

pub rules-do : {table : List Constructor} {A : Around} {k : ℕ} {t u : Typ} {rs : List RuleOf} {xs : List RuleTree} {cs : List (Choices × Choices)} → EachRule table A k t u rs xs cs
    → RulesElab table A k (rules_of rs) (tree.rules_of xs) t u (choices_of cs)
rules-do no_rule = no_rules_elab
rules-do (one_rule {r = r} a o e h) = a_rule_elab r.place a o e (rules-do h)

each-snoc : {table : List Constructor} {A : Around} {k : ℕ} {t u : Typ} {rs : List RuleOf} {xs : List RuleTree} {cs : List (Choices × Choices)} {vs : Bound}
    {c d : Choices} {q : Scope} {j : ℕ} (r : RuleOf) (x : RuleTree) → EachRule table A k t u rs xs cs → PatElab table A k r.pat x.pat t vs c q j → AreDistinct (bound_in vs)
    → ExpElab table (with_bound A vs q (pat_onto of_type x.pat (as_typed A t) A.known)) j r.exp x.exp u d
    → EachRule table A k t u (rs ++ r ∷ []) (xs ++ x ∷ []) (cs ++ (c, d) ∷ [])
each-snoc r x no_rule a o e = one_rule a o e no_rule
each-snoc r x (one_rule b p f h) a o e = one_rule b p f (each-snoc r x h a o e)

-- none

pub none-use : (C : Context) (W : World) (A : Around) (S : State) (l : Limit) (k : ℕ) → IsContext S C → Tells C W A → l ≡ limit_of C → IsWithin W l k → IsInUse A (type_of W k)
none-use C W A S l k i t e w = record { names = new-names C W A l k t e w; parameters = new-parameters S C W A l k i t e w }

pub no_rules_are : (S T : State) (C : Context) (made : RulesMade) → made.rules.items ≡ [] → Grows S T → HasType T made.domain → HasType T made.range
    → ((W : World) → Comes T W → (A : Around) → Tells C W A → IsInUse A (type_of W made.domain))
    → ((W : World) → Comes T W → (A : Around) → Tells C W A → IsInUse A (type_of W made.range)) → AreRules S C [] T made
no_rules_are S T C made q g d r h k = record {
  grows = g;
  domain = d;
  range = r;
  gives = λ W c A t.
      subst (λ l. ElaboratesRules W A S.next [] (map (rule_of W.reading) l) (type_of W made.domain) (type_of W made.range)) (sym q)
      (record { choices = []; elab = λ j le. no_rule; domain = h W c A t; range = k W c A t });
}

-- the type of an expression is in use
pub exp-use : (S M T : State) (C : Context) (e : bare.Exp) (r : TypedExp) → IsExp S C e M r → Grows M T → (W : World) → Comes T W → (A : Around) → Tells C W A → IsInUse A (type_of W r.ty)
exp-use S M T C e r h g W c A t = let x = h.gives W (comes_before M T W g c) A t in record { names = x.names; parameters = x.parameters }

-- and that of packets
pub exn-use : (S : State) (C : Context) (W : World) (A : Around) (k : ℕ) → IsContext S C → Tells C W A → type_of W k ≡ exn_type → IsInUse A (type_of W k)
exn-use S C W A k i t e =
    let le = i.wide in
    let n = t.names in
    let lt : 5 < A.names = omega (arith, le, n) in
    subst (IsInUse A) (sym e) (record { names = (lt-ltb 5 A.names lt, tt); parameters = refl })

-- one more

pub vids-bound : (W : World) (bs : List BoundVariable) → bound_in (bound_of W bs) ≡ vids_of bs
vids-bound W [] = refl
vids-bound W (b ∷ bs) = ap (λ l. b.vid ∷ l) (vids-bound W bs)

at-most : (i j k : ℕ) → i ≤ j → j ≤ k → i ≤ k
at-most i j k h l = omega arith

-- behind a pattern that elaborated, what the context tells is what is around the expression
behind : (C : Context) (W : World) (A : Around) (bs : List BoundVariable) (k j : ℕ) (a : bare.Pat) (p : Rattle.ir_poly.specs.Prog.Pat) (t : Typ) → Tells C W A → IsNumbered k C
    → distinct same_vid (vids_of bs) ≡ true → Elaborates W A k a p t bs j
    → Tells (within C bs) W (with_bound A (bound_of W bs) (scope_of bs) (pat_onto of_type p (as_typed A t) A.known))
behind C W A bs k j a p t h n d x =
    tells_within C W A bs k j (pat_onto of_type p (as_typed A t) A.known) h (pattern-binds W.table A x.elab A.known) (ap (distinct same_vid) (vids-bound W bs) ∙ d)
    (variables-used W A bs x.elab x.parameters) (λ y e m v q s. n y.qualifiers y.vid e q m (number-known W A e m v s))

rule-made : (W : World) (C : Context) (A : Around) (bs : List BoundVariable) (k m n : ℕ) (rs : List RuleOf) (xs : List RuleTree) (r : RuleOf) (x : RuleTree) (t u : Typ) → k ≤ m → Tells C W A
    → IsNumbered m C → distinct same_vid (vids_of bs) ≡ true → ElaboratesRules W A k rs xs t u → Elaborates W A m r.pat x.pat t bs n
    → ((B : Around) → Tells (within C bs) W B → ElaboratesExp W B n r.exp x.exp u) → ElaboratesRules W A k (rs ++ r ∷ []) (xs ++ x ∷ []) t u
rule-made W C A bs k m n rs xs r x t u le h i d g a e =
    let B = with_bound A (bound_of W bs) (scope_of bs) (pat_onto of_type x.pat (as_typed A t) A.known) in
    let f = e B (behind C W A bs m n r.pat x.pat t h i d a) in
    record {
      choices = g.choices ++ (a.choices, f.choices) ∷ [];
      elab = λ j l.
          let low = lowered W.table A j (at-most j k m l le) a.elab in
          each-snoc r x (g.elab j l) low.elab (ap (distinct same_vid) (vids-bound W bs) ∙ d) (f.elab low.next low.most);
      domain = g.domain;
      range = g.range;
    }

pub rule_added : (S M P Q N T : State) (C : Context) (rs : List RuleOf) (p : Place) (a : bare.Pat) (e : bare.Exp) (bs : List BoundVariable) (old new : RulesMade) (pat : TypedPat) (exp : TypedExp)
    (rule : Rule) → AreRules S C rs M old → IsContext M C → IsPat M C a P [] bs pat → IsEntered P bs pat.ty old.domain Q → IsExp Q (within C bs) e N exp → Grows N T
    → Always T (λ W. type_of W exp.ty ≡ type_of W old.range) → rule ≡ record { pat = pat.pat; exp = exp.exp } → new.rules.items ≡ old.rules.items ++ rule ∷ []
    → new.domain ≡ old.domain → new.range ≡ old.range → AreRules S C (rs ++ record { place = p; pat = a; exp = e } ∷ []) T new
rule_added S M P Q N T C rs p a e bs old new pat exp rule h ic i n x gt same ru it ed er =
    let qt = grows_on Q N T x.grows gt in
    let pt = grows_on P Q T n.grows qt in
    let mt = grows_on M P T i.grows pt in
    record {
      grows = grows_on S M T h.grows mt;
      domain = subst (HasType T) (sym ed) (type_later M T old.domain mt h.domain);
      range = subst (HasType T) (sym er) (type_later M T old.range mt h.range);
      gives = λ W c A t.
          let R = W.reading in
          let made = map (rule_of R) old.rules.items in
          let r : RuleOf = record { place = p; pat = a; exp = e } in
          let y : RuleTree = record { pat = pat_of R pat.pat; exp = tree_of R exp.exp } in
          let taken : type_of W pat.ty ≡ type_of W old.domain = n.same W (comes_before Q T W qt c) in
          let given : type_of W exp.ty ≡ type_of W old.range = same W c in
          let added : i.added ≡ bs = sym i.bound in
          let b : Elaborates W A M.next a y.pat (type_of W old.domain) bs P.next =
          subst (λ z. Elaborates W A M.next a y.pat z bs P.next) taken
          (subst (λ z. Elaborates W A M.next a y.pat (type_of W pat.ty) z P.next) added (i.gives W (comes_before P T W pt c) A t)) in
          let f : (B : Around) → Tells (within C bs) W B → ElaboratesExp W B P.next e y.exp (type_of W old.range) =
          λ B s. subst (λ z. ElaboratesExp W B P.next e y.exp z) given (subst (λ z. ElaboratesExp W B z e y.exp (type_of W exp.ty)) n.next (x.gives W (comes_before N T W gt c) B s)) in
          let whole = rule-made W C A bs S.next M.next P.next rs made r y (type_of W old.domain) (type_of W old.range) h.grows.next t ic.numbered n.once (h.gives W (comes_before M T W mt c) A t) b f in
          let is : map (rule_of R) new.rules.items ≡ made ++ y ∷ [] =
          ap (map (rule_of R)) (it ∙ ap (λ (z : Rule). old.rules.items ++ z ∷ []) ru) ∙ map-append (rule_of R) old.rules.items (record { pat = pat.pat; exp = exp.exp } ∷ [])
          ∙ ap (λ z. made ++ z ∷ []) (rule_of-parts R (record { pat = pat.pat; exp = exp.exp })) in
          subst (λ l. ElaboratesRules W A S.next (rs ++ r ∷ []) l (type_of W new.domain) (type_of W new.range)) (sym is)
          (subst (λ k. ElaboratesRules W A S.next (rs ++ r ∷ []) (made ++ y ∷ []) (type_of W k) (type_of W new.range)) (sym ed)
          (subst (λ k. ElaboratesRules W A S.next (rs ++ r ∷ []) (made ++ y ∷ []) (type_of W old.domain) (type_of W k)) (sym er) whole));
    }
