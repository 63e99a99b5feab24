use Rattle.std.proofs.Common.{sym, subst}
use Rattle.sml_tree.specs.BareTree.{built_con_pat}
use Rattle.sml_tree.specs.declared.ident.BuiltIn.{BuiltIn}
use Rattle.elab_context.proofs.of_elab_steps.Changing.{if-ok}
use Rattle.pat_elab.specs.Matched.{IsHeaded}
use Rattle.pat_elab.proofs.built.built_before.Goals as goal

pub returns-in-Cons : goal.returns-in-Cons
returns-in-Cons c = record {
  is = if-ok c.cons_before.result (λ h k p.
      subst (λ (b : BuiltIn). IsHeaded c.args.state.now c.args.context.now (λ x. built_con_pat p b x) c.args.argument c.cons_before.new.state h) (sym c.in-Cons.is) (k p)) c.cons_before.ensures.is;
}
