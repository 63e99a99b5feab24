-- Functions of parameters and a body.
use Rattle.std.proofs.Common.{◌≡◌, ◌<◌, ◌≤◌, ◌-◌, ◌&&◌, ℕ, suc, zero, true, List, [], ◌∷◌, ◌++◌, drop, length, get_or, Box, Vec, Global, refl, sym, ap, ap₂, subst, ◌∙◌, arith}
use Rattle.mlc_base.specs.declared.place.Place.{Place}
use Rattle.ty_core.specs.Types.{Typ}
use Rattle.ty_basis.specs.Types.{function_type}
use Rattle.sml_tree.specs.BareTree as bare
use Rattle.core_rules.specs.Choices.{no_choice, both}
use Rattle.ir_poly.specs.Prog as prog
use Rattle.ir_poly.specs.TestsChecked.{of_type}
use Rattle.prog_tree.specs.TreeOf.{Reading, DecTree, RuleTree, after_parameters, function_of, node_dec, node_exp, node_function, node_rule, tree_of}
use Rattle.prog_tree.specs.declared.tree.Exp.{Exp, Exp-F, fold-roll-Exp}
use Rattle.prog_tree.specs.declared.tree.Exp.TheVariants as exps
use Rattle.prog_tree.specs.declared.tree.Function.{Function}
use Rattle.prog_tree.specs.declared.tree.Function.TheVariants as functions
use Rattle.prog_tree.specs.declared.tree.Parameter.{Parameter}
use Rattle.prog_tree.proofs.ExpOf.{function_of-Named}
use Rattle.elab_typed.specs.Contexts.{Around, with_bound}
use Rattle.elab_typed.specs.Elaborates.{fn_elab, last_elab, more_elab}
use Rattle.elab_typed.specs.Instances.{as_typed}
use Rattle.elab_typed.specs.Numbers.{type_as}
use Rattle.elab_typed.proofs.Names.{over-as}
use Rattle.pat_elab.specs.of_elab_state.declared.state.State.{State}
use Rattle.use_elab.specs.Fresh.{images_of}
use Rattle.pat_elab.specs.of_elab_steps.Growing.{HasType, AreTypes, Grows, Always}
use Rattle.pat_elab.specs.of_elab_steps.World.{World, type_of, Comes}
use Rattle.pat_elab.proofs.of_elab_steps.Growing.{grows_on, grows_same, type_later, comes_before}
use Rattle.pat_elab.specs.of_elab_context.Telling.{Tells}
use Rattle.pat_elab.specs.of_elab_context.declared.context.Context.{Context}
use Rattle.pat_elab.specs.Elaborated.{bound_of, scope_of}
use Rattle.use_elab.specs.Elaborated.{ElaboratesExp, IsExp}
use Rattle.use_elab.specs.declared.typed.TypedExp.{TypedExp}
use Rattle.exp_forms.proofs.Calling.{written-as}
use Rattle.exp_forms.specs.Functions.{rules_of, curried, ElaboratesFunction, IsFunction}
use Rattle.exp_forms.specs.Parameters.{Takes, AreEntered, none_entered, one_entered}
use Rattle.exp_forms.specs.declared.functions_made.FunctionMade.{FunctionMade}
use Rattle.exp_forms.proofs.EnteringFunctions.{entered-grows}

at-most : (i j k : ℕ) → i ≤ j → j ≤ k → i ≤ k
at-most i j k h l = omega arith

not-none : (before : List Parameter) (x : Parameter) → [] ≡ before ++ x ∷ [] → ⊥
not-none [] x e = cc
not-none (b ∷ before) x e = cc

-- the program's function of parameters, with its body
abbrev named : Reading → List Parameter → Parameter → prog.Exp → prog.Fun
named R before x y = after_parameters R before (prog.last x.variable (R.type x.ty) y)

module _ (W : World) (e : bare.Exp) (y : prog.Exp) (u : Typ) where
  function-do : {S T : State} {C D : Context} {as_ : List Takes} {ps : List Parameter} {ts : List ℕ} → AreEntered S C as_ T D ps ts → (before : List Parameter) (x : Parameter) → ps ≡ before ++ x ∷ []
      → Comes T W → (A : Around) → Tells C W A → ((B : Around) → Tells D W B → ElaboratesExp W B T.next e y u)
      → ElaboratesFunction W A S.next (rules_of as_ e) (named W.reading before x y) (curried (images_of W ts) u)
  function-do none_entered before x q c A t f = absurd (not-none before x q)
  function-do {S = S} {T = T} {C = C} (one_entered {a = a} {p = p} {t = k} h none_entered) [] x q c A t f =
      let same : p ≡ x = cc in
      let g = h.gives W c A t in
      let v = type_of W k in
      let B = with_bound A (bound_of W h.bound) (scope_of h.bound) ((p.variable, of_type (as_typed A v)) ∷ A.known) in
      let d = f B g.tells in
      let type : W.reading.type p.ty ≡ as_typed A v = h.written W c ∙ written-as C W A v t in
      subst (λ z. ElaboratesFunction W A S.next (rules_of (a ∷ []) e) (prog.last z.variable (W.reading.type z.ty) y) (function_type v u)) same
      (subst (λ z. ElaboratesFunction W A S.next (rules_of (a ∷ []) e) (prog.last p.variable z y) (function_type v u)) (sym type)
      (record {
        domain = v;
        range = u;
        is = refl;
        choices = both no_choice (both d.choices no_choice);
        elab = λ j le.
            last_elab a.place p.variable (at-most j S.next p.variable le h.first) (over-as A.number A.parameters v ∙ g.used.parameters) g.elab (d.elab (suc p.variable) h.next);
        domain_used = g.used;
        range_used = record { names = d.names; parameters = d.parameters };
      }))
  function-do (one_entered h none_entered) (b ∷ before) x q c A t f = absurd (not-none before x (cc))
  function-do (one_entered h (one_entered k rest)) [] x q c A t f = absurd (cc)
  function-do {S = S} {T = T} {C = C} (one_entered {M = M} {a = a} {as_ = as_} {p = p} {t = n} {ts = ts} h (one_entered {a = a'} {as_ = bs} {p = p'} {ps = qs} k rest)) (b ∷ before) x q c A t f =
      let same : p ≡ b = cc in
      let more : p' ∷ qs ≡ before ++ x ∷ [] = cc in
      let cm = comes_before M T W (entered-grows (one_entered {a = a'} k rest)) c in
      let g = h.gives W cm A t in
      let v = type_of W n in
      let B = with_bound A (bound_of W h.bound) (scope_of h.bound) ((p.variable, of_type (as_typed A v)) ∷ A.known) in
      let inner = function-do (one_entered {a = a'} k rest) before x more c B g.tells f in
      let type : W.reading.type p.ty ≡ as_typed A v = h.written W cm ∙ written-as C W A v t in
      let node = named W.reading before x y in
      subst (λ z. ElaboratesFunction W A S.next (rules_of (a ∷ a' ∷ bs) e) (prog.more z.variable (W.reading.type z.ty) node) (function_type v (curried (images_of W ts) u))) same
      (subst (λ z. ElaboratesFunction W A S.next (rules_of (a ∷ a' ∷ bs) e) (prog.more p.variable z node) (function_type v (curried (images_of W ts) u))) (sym type)
      (record {
        domain = v;
        range = function_type inner.domain inner.range;
        is = ap (function_type v) inner.is;
        choices = both no_choice (both inner.choices no_choice);
        elab = λ j le.
            more_elab a.place a'.at p.variable (at-most j S.next p.variable le h.first) (over-as A.number A.parameters v ∙ g.used.parameters) g.elab (inner.elab (suc p.variable) h.next);
        domain_used = g.used;
        range_used = record {
          names = (tt, (inner.domain_used.names, (inner.range_used.names, tt)));
          parameters = ap₂ (λ x y. x && (y && true)) inner.domain_used.parameters inner.range_used.parameters;
        };
      }))

pub function_is : (S M N T : State) (C D : Context) (as_ : List Takes) (e : bare.Exp) (before : Vec Parameter Global) (x : Parameter) (types : List ℕ) (body : TypedExp) (ty : ℕ)
    (boxed : Box Exp Global) (made : FunctionMade) → AreEntered S C as_ M D (before.items ++ x ∷ []) types → IsExp M D e N body → Grows N T → HasType T ty
    → Always T (λ W. type_of W ty ≡ curried (images_of W types) (type_of W body.ty)) → boxed.value ≡ body.exp → made.function ≡ functions.Named before x boxed → made.ty ≡ ty
    → IsFunction S C (rules_of as_ e) T made
function_is S M N T C D as_ e before x types body ty boxed made h i g is has v ef et =
    let mt = grows_on M N T i.grows g in record {
      grows = grows_on S M T (entered-grows h) mt;
      is = subst (HasType T) (sym et) is;
      gives = λ W c A t.
          let R = W.reading in
          let cn = comes_before N T W g c in
          let done = function-do W e (tree_of R body.exp) (type_of W body.ty) h before.items x refl (comes_before M T W mt c) A t (λ B s. i.gives W cn B s) in
          let shape : function_of R made.function ≡ named R before.items x (tree_of R body.exp) =
          ap (function_of R) ef ∙ function_of-Named R before x boxed ∙ ap (λ z. named R before.items x (tree_of R z)) v in
          subst (λ z. ElaboratesFunction W A S.next (rules_of as_ e) z (type_of W made.ty)) (sym shape)
          (subst (ElaboratesFunction W A S.next (rules_of as_ e) (named R before.items x (tree_of R body.exp))) (sym (ap (type_of W) et ∙ has W c)) done);
    }

-- a function as an expression

tree_of-Fn : (R : Reading) (a : ℕ) (f : Function) → tree_of R (exps.Fn a f) ≡ prog.fn_exp (R.type a) (function_of R f)
tree_of-Fn R a f = ap (tree_of R) (sym (exps.rolls-Fn a f)) ∙ fold-roll-Exp DecTree prog.Exp prog.Fun RuleTree (node_dec R) (node_exp R) (node_function R) (node_rule R) (Exp-F.Fn a f)

pub expression_is : (S N T : State) (C : Context) (p : Place) (rs : bare.Rules) (made : FunctionMade) (written : ℕ) (r : TypedExp) → IsFunction S C rs N made → Grows N T
    → Always T (λ W. W.reading.type written ≡ type_as (W.naming C.naming) (type_of W made.ty)) → r.exp ≡ exps.Fn written made.function → r.ty ≡ made.ty → IsExp S C (bare.fn p rs) T r
expression_is S N T C p rs made written r h g w ex et = record {
  grows = grows_on S N T h.grows g;
  is = subst (HasType T) (sym et) (type_later N T made.ty g h.is);
  gives = λ W c A t.
      let R = W.reading in
      let f = h.gives W (comes_before N T W g c) A t in
      let same : type_of W made.ty ≡ function_type f.domain f.range = f.is in
      let node = prog.fn_exp (as_typed A (function_type f.domain f.range)) (function_of R made.function) in
      subst (λ z. ElaboratesExp W A S.next (bare.fn p rs) z (type_of W r.ty))
      (sym (ap (tree_of R) ex ∙ tree_of-Fn R written made.function
      ∙ ap (λ z. prog.fn_exp z (function_of R made.function)) (w W c ∙ written-as C W A (type_of W made.ty) t ∙ ap (as_typed A) same)))
      (subst (ElaboratesExp W A S.next (bare.fn p rs) node) (sym (ap (type_of W) et ∙ same))
      (record {
        choices = f.choices;
        elab = λ j le. fn_elab p (f.elab j le);
        names = (tt, (f.domain_used.names, (f.range_used.names, tt)));
        parameters = ap₂ (λ x y. x && (y && true)) f.domain_used.parameters f.range_used.parameters;
      }));
}

-- the type of a function, from its last parameter on

-- from the i-th parameter on
pub record Curried (S T : State) (types : List ℕ) (range i ty : ℕ) : Type 0 where
  pub most : i ≤ length types
  pub grows : Grows S T
  pub is : HasType T ty
  pub has : Always T (λ W. type_of W ty ≡ curried (images_of W (drop i types)) (type_of W range))

drop-all : (types : List ℕ) → drop (length types) types ≡ []
drop-all [] = refl
drop-all (t ∷ types) = drop-all types

pub curried_starts : (S : State) (types : List ℕ) (range n : ℕ) → HasType S range → n ≡ length types → Curried S S types range n range
curried_starts S types range n h e = record {
  most = omega (arith, e);
  grows = grows_same S;
  is = h;
  has = λ W c. ap (λ l. curried (images_of W l) (type_of W range)) (sym (ap (λ k. drop k types) e ∙ drop-all types));
}

drop-one : (xs : List ℕ) (i : ℕ) → i < length xs → drop i xs ≡ get_or xs i 0 ∷ drop (suc i) xs
drop-one [] i lt = absurd (omega arith)
drop-one (y ∷ xs) zero lt = refl
drop-one (y ∷ xs) (suc i) lt = drop-one xs i (omega arith)

pub types-at : (S : State) (ks : List ℕ) (i : ℕ) → AreTypes S ks → i < length ks → HasType S (get_or ks i 0)
types-at S [] i h lt = absurd (omega arith)
types-at S (k ∷ ks) zero h lt = h.0
types-at S (k ∷ ks) (suc i) h lt = types-at S ks i h.1 (omega arith)

pub before-length : (types : List ℕ) (n : ℕ) → 0 < n → n ≤ length types → n - 1 < length types
before-length types n lt le = omega (arith, lt, le)

pub curried_goes_on : (S M T : State) (types : List ℕ) (range n old new : ℕ) → Curried S M types range n old → 0 < n → Grows M T → HasType T new
    → Always T (λ W. type_of W new ≡ function_type (type_of W (get_or types (n - 1) 0)) (type_of W old)) → Curried S T types range (n - 1) new
curried_goes_on S M T types range n old new h lt g is has =
    let le = h.most in
    let up : suc (n - 1) ≡ n = omega (arith, lt) in
    let at = before-length types n lt le in
    let t = get_or types (n - 1) 0 in
    record {
      most = omega (arith, le);
      grows = grows_on S M T h.grows g;
      is = is;
      has = λ W c.
          has W c ∙ ap (function_type (type_of W t)) (h.has W (comes_before M T W g c) ∙ ap (λ k. curried (images_of W (drop k types)) (type_of W range)) (sym up))
          ∙ ap (λ l. curried (images_of W l) (type_of W range)) (sym (drop-one types (n - 1) at));
    }
