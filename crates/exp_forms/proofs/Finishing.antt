-- `fn`, `case` and `handle` of their rules.
use Rattle.std.proofs.Common.{◌≡◌, ◌≤◌, ◌&&◌, ℕ, true, List, [], map, Vec, Box, Global, refl, sym, ap, ap₂, subst, ◌∙◌}
use Rattle.mlc_base.specs.declared.place.Place.{Place}
use Rattle.ty_basis.specs.Types.{exn_type, function_type}
use Rattle.sml_tree.specs.BareTree as bare
use Rattle.sml_tree.specs.TreeOf.{RuleOf, rules_of}
use Rattle.core_rules.specs.Choices.{both}
use Rattle.ir_poly.specs.Prog as prog
use Rattle.prog_tree.specs.TreeOf.{Reading, DecTree, RuleTree, function_of, node_dec, node_exp, node_function, node_rule, rule_of, tree_of}
use Rattle.prog_tree.specs.TreeOf as tree
use Rattle.prog_tree.specs.declared.tree.Exp.{Exp, Exp-F, fold-roll-Exp}
use Rattle.prog_tree.specs.declared.tree.Exp.TheVariants as exps
use Rattle.prog_tree.specs.declared.tree.Function.{Function}
use Rattle.prog_tree.specs.declared.tree.Function.TheVariants as functions
use Rattle.prog_tree.specs.declared.tree.Parameter.{Parameter}
use Rattle.prog_tree.proofs.ExpOf.{tree_of-Case, tree_of-Handle, function_of-ByRules}
use Rattle.elab_typed.specs.Numbers.{type_as}
use Rattle.elab_typed.specs.Elaborates.{case_elab, fn_elab, handle_elab, by_rules_elab}
use Rattle.elab_typed.specs.Instances.{as_typed}
use Rattle.elab_typed.proofs.Names.{over-as}
use Rattle.pat_elab.specs.of_elab_state.declared.state.State.{State}
use Rattle.pat_elab.specs.of_elab_steps.Growing.{HasType, Grows, Always}
use Rattle.pat_elab.specs.of_elab_steps.World.{type_of}
use Rattle.pat_elab.proofs.of_elab_steps.Growing.{grows_on, type_later, comes_before}
use Rattle.pat_elab.specs.of_elab_context.declared.context.Context.{Context}
use Rattle.use_elab.specs.Elaborated.{ElaboratesExp, IsExp}
use Rattle.use_elab.specs.declared.typed.TypedExp.{TypedExp}
use Rattle.exp_forms.proofs.Calling.{written-as}
use Rattle.exp_forms.specs.Rules.{AreRules, ElaboratesRules}
use Rattle.exp_forms.specs.declared.rules_made.RulesMade.{RulesMade}
use Rattle.exp_forms.proofs.JoiningRules.{choices_of, rules-do}

tree_of-Fn : (R : Reading) (a : ℕ) (f : Function) → tree_of R (exps.Fn a f) ≡ prog.fn_exp (R.type a) (function_of R f)
tree_of-Fn R a f = ap (tree_of R) (sym (exps.rolls-Fn a f)) ∙ fold-roll-Exp DecTree prog.Exp prog.Fun RuleTree (node_dec R) (node_exp R) (node_function R) (node_rule R) (Exp-F.Fn a f)

-- `fn`
pub function_is : (S N P T : State) (C : Context) (place p : Place) (rs : List RuleOf) (made : RulesMade) (ty whole domain range : ℕ) (none : Vec Parameter Global) (r : TypedExp)
    → AreRules S C rs N made → Grows N P → HasType P ty → Always P (λ W. type_of W ty ≡ function_type (type_of W made.domain) (type_of W made.range)) → Grows P T
    → Always T (λ W. W.reading.type whole ≡ type_as (W.naming C.naming) (type_of W ty)) → Always T (λ W. W.reading.type domain ≡ type_as (W.naming C.naming) (type_of W made.domain))
    → Always T (λ W. W.reading.type range ≡ type_as (W.naming C.naming) (type_of W made.range)) → none.items ≡ []
    → r.exp ≡ exps.Fn whole (functions.ByRules none place domain range made.rules) → r.ty ≡ ty → IsExp S C (bare.fn p (rules_of rs)) T r
function_is S N P T C place p rs made ty whole domain range none r h gp is has gt ww wd wr nothing ex q =
    let nt = grows_on N P T gp gt in
    record {
      grows = grows_on S N T h.grows nt;
      is = subst (HasType T) (sym q) (type_later P T ty gt is);
      gives = λ W c A t.
          let R = W.reading in
          let a = h.gives W (comes_before N T W nt c) A t in
          let d = type_of W made.domain in
          let u = type_of W made.range in
          let same : type_of W ty ≡ function_type d u = has W (comes_before P T W gt c) in
          let rules = tree.rules_of (map (rule_of R) made.rules.items) in
          let node = prog.fn_exp (as_typed A (function_type d u)) (prog.by_rules place (as_typed A d) (as_typed A u) rules) in
          let tree-is : tree_of R r.exp ≡ node =
          ap (tree_of R) ex ∙ tree_of-Fn R whole (functions.ByRules none place domain range made.rules)
          ∙ ap₂ prog.fn_exp (ww W c ∙ written-as C W A (type_of W ty) t ∙ ap (as_typed A) same)
          (function_of-ByRules R none place domain range made.rules ∙ ap (λ (l : List Parameter). tree.after_parameters R l (prog.by_rules place (R.type domain) (R.type range) rules)) nothing
          ∙ ap₂ (λ x y. prog.by_rules place x y rules) (wd W c ∙ written-as C W A d t) (wr W c ∙ written-as C W A u t)) in
          subst (λ z. ElaboratesExp W A S.next (bare.fn p (rules_of rs)) z (type_of W r.ty)) (sym tree-is)
          (subst (ElaboratesExp W A S.next (bare.fn p (rules_of rs)) node) (sym (ap (type_of W) q ∙ same))
          (record {
            choices = choices_of a.choices;
            elab = λ j le. fn_elab p (by_rules_elab place (over-as A.number A.parameters d ∙ a.domain.parameters) (rules-do (a.elab j le)));
            names = (tt, (a.domain.names, (a.range.names, tt)));
            parameters = ap₂ (λ x y. x && (y && true)) a.domain.parameters a.range.parameters;
          }));
    }

-- `case`
pub case_is : (S M N T : State) (C : Context) (place p q : Place) (e : bare.Exp) (rs : List RuleOf) (taken r : TypedExp) (made : RulesMade) (written : ℕ) (boxed : Box Exp Global)
    → IsExp S C e M taken → AreRules M C rs N made → made.domain ≡ taken.ty → Grows N T → Always T (λ W. W.reading.type written ≡ type_as (W.naming C.naming) (type_of W made.range))
    → boxed.value ≡ taken.exp → r.exp ≡ exps.Case place written boxed made.rules → r.ty ≡ made.range → IsExp S C (bare.app p (bare.fn q (rules_of rs)) e) T r
case_is S M N T C place p q e rs taken r made written boxed i h ed gt wr v ex er =
    let mt = grows_on M N T h.grows gt in
    record {
      grows = grows_on S M T i.grows mt;
      is = subst (HasType T) (sym er) (type_later N T made.range gt h.range);
      gives = λ W c A t.
          let R = W.reading in
          let a = h.gives W (comes_before N T W gt c) A t in
          let d = type_of W made.domain in
          let u = type_of W made.range in
          let b : ElaboratesExp W A S.next e (tree_of R taken.exp) d =
          subst (λ k. ElaboratesExp W A S.next e (tree_of R taken.exp) (type_of W k)) (sym ed) (i.gives W (comes_before M T W mt c) A t) in
          let rules = tree.rules_of (map (rule_of R) made.rules.items) in
          let node = prog.case_exp place (as_typed A u) (tree_of R taken.exp) rules in
          let tree-is : tree_of R r.exp ≡ node =
          ap (tree_of R) ex ∙ tree_of-Case R place written boxed made.rules ∙ ap₂ (λ x y. prog.case_exp place x (tree_of R y) rules) (wr W c ∙ written-as C W A u t) v in
          subst (λ z. ElaboratesExp W A S.next (bare.app p (bare.fn q (rules_of rs)) e) z (type_of W r.ty)) (sym tree-is)
          (subst (λ k. ElaboratesExp W A S.next (bare.app p (bare.fn q (rules_of rs)) e) node (type_of W k)) (sym er)
          (record {
            choices = both (choices_of a.choices) b.choices;
            elab = λ j le.
                case_elab p q place (rules-do (a.elab j (at-most j S.next M.next le i.grows.next))) (b.elab j le) (over-as A.number A.parameters d ∙ a.domain.parameters);
            names = a.range.names;
            parameters = a.range.parameters;
          }));
    }
  where
    at-most : (i j k : ℕ) → i ≤ j → j ≤ k → i ≤ k
    at-most i j k h l = omega Rattle.std.proofs.Common.arith

-- `handle`
pub handle_is : (S M N T : State) (C : Context) (p : Place) (e : bare.Exp) (rs : List RuleOf) (body r : TypedExp) (made : RulesMade) (written : ℕ) (boxed : Box Exp Global)
    → IsExp S C e M body → AreRules M C rs N made → Always N (λ W. type_of W made.domain ≡ exn_type) → made.range ≡ body.ty → Grows N T
    → Always T (λ W. W.reading.type written ≡ type_as (W.naming C.naming) (type_of W body.ty)) → boxed.value ≡ body.exp → r.exp ≡ exps.Handle written boxed made.rules → r.ty ≡ body.ty
    → IsExp S C (bare.handle p e (rules_of rs)) T r
handle_is S M N T C p e rs body r made written boxed i h exn er gt wr v ex q =
    let mt = grows_on M N T h.grows gt in
    record {
      grows = grows_on S M T i.grows mt;
      is = subst (HasType T) (sym q) (type_later M T body.ty mt i.is);
      gives = λ W c A t.
          let R = W.reading in
          let cn = comes_before N T W gt c in
          let a = h.gives W cn A t in
          let u = type_of W body.ty in
          let xs = map (rule_of R) made.rules.items in
          let f : ElaboratesRules W A M.next rs xs exn_type u =
          subst (λ z. ElaboratesRules W A M.next rs xs z u) (exn W cn) (subst (λ k. ElaboratesRules W A M.next rs xs (type_of W made.domain) (type_of W k)) er a) in
          let b = i.gives W (comes_before M T W mt c) A t in
          let node = prog.handle_exp (as_typed A u) (tree_of R body.exp) (tree.rules_of xs) in
          let tree-is : tree_of R r.exp ≡ node =
          ap (tree_of R) ex ∙ tree_of-Handle R written boxed made.rules ∙ ap₂ (λ x y. prog.handle_exp x (tree_of R y) (tree.rules_of xs)) (wr W c ∙ written-as C W A u t) v in
          subst (λ z. ElaboratesExp W A S.next (bare.handle p e (rules_of rs)) z (type_of W r.ty)) (sym tree-is)
          (subst (λ k. ElaboratesExp W A S.next (bare.handle p e (rules_of rs)) node (type_of W k)) (sym q)
          (record {
            choices = both b.choices (choices_of f.choices);
            elab = λ j le.
                handle_elab p (b.elab j le) (rules-do (f.elab j (at-most j S.next M.next le i.grows.next)));
            names = b.names;
            parameters = b.parameters;
          }));
    }
  where
    at-most : (i j k : ℕ) → i ≤ j → j ≤ k → i ≤ k
    at-most i j k h l = omega Rattle.std.proofs.Common.arith
