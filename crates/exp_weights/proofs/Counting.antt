-- An expression with its nodes elaborates as it does without them.
use Rattle.std.proofs.Common.{◌≡◌, ℕ, Box, Global, sym, ap, ap₂, subst, ◌∙◌}
use Rattle.sml_tree.specs.BareTree as bare
use Rattle.ir_poly.specs.Prog as prog
use Rattle.prog_tree.specs.TreeOf.{Reading, DecTree, RuleTree, node_dec, node_exp, node_function, node_rule, tree_of}
use Rattle.prog_tree.specs.declared.tree.Exp.{Exp, Exp-F, fold-roll-Exp}
use Rattle.prog_tree.specs.declared.tree.Exp.TheVariants as tree
use Rattle.elab_typed.specs.Numbers.{type_as}
use Rattle.elab_typed.specs.Elaborates.{counted_elab}
use Rattle.elab_typed.specs.Instances.{as_typed}
use Rattle.elab_state.specs.declared.state.State.{State}
use Rattle.elab_steps.specs.Growing.{HasType, Grows, Always}
use Rattle.elab_steps.specs.World.{type_of}
use Rattle.elab_steps.proofs.Growing.{grows_on, type_later, comes_before}
use Rattle.elab_context.specs.declared.context.Context.{Context}
use Rattle.use_elab.specs.Elaborated.{ElaboratesExp, IsExp}
use Rattle.use_elab.specs.declared.typed.TypedExp.{TypedExp}

tree-of-counted : (R : Reading) (n a : ℕ) (e : Box Exp Global) → tree_of R (tree.Counted n a e) ≡ prog.counted_exp n (R.type a) (tree_of R e.value)
tree-of-counted R n a e =
    ap (tree_of R) (sym (tree.rolls-Counted n a e)) ∙ fold-roll-Exp DecTree prog.Exp prog.Fun RuleTree (node_dec R) (node_exp R) (node_function R) (node_rule R) (Exp-F.Counted n a e)

pub counted_is : (S N T : State) (C D : Context) (e : bare.Exp) (made r : TypedExp) (n written : ℕ) (boxed : Box Exp Global) → C ≡ D → IsExp S C e N made → Grows N T
    → Always T (λ W. W.reading.type written ≡ type_as (W.naming D.naming) (type_of W made.ty)) → boxed.value ≡ made.exp → r.exp ≡ tree.Counted n written boxed → r.ty ≡ made.ty
    → IsExp S C e T r
counted_is S N T C D e made r n written boxed same h g wr v ex q = record {
  grows = grows_on S N T h.grows g;
  is = subst (HasType T) (sym q) (type_later N T made.ty g h.is);
  gives = λ W c A t.
      let d = h.gives W (comes_before N T W g c) A t in
      let u = type_of W made.ty in
      let as_written : type_as (W.naming D.naming) u ≡ as_typed A u = ap (λ (E : Context). type_as (W.naming E.naming) u) (sym same) ∙ ap (λ (num : ℕ → ℕ). type_as num u) (sym t.number) in
      subst (λ z. ElaboratesExp W A S.next e z (type_of W r.ty))
      (sym (ap (tree_of W.reading) ex ∙ tree-of-counted W.reading n written boxed ∙ ap₂ (λ a x. prog.counted_exp n a (tree_of W.reading x)) (wr W c ∙ as_written) v))
      (subst (λ k. ElaboratesExp W A S.next e (prog.counted_exp n (as_typed A u) (tree_of W.reading made.exp)) (type_of W k)) (sym q)
      (record { choices = d.choices; elab = λ j le. counted_elab n (d.elab j le); names = d.names; parameters = d.parameters }));
}
