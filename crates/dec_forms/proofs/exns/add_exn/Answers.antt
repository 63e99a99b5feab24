use Rattle.std.proofs.Common.{◌++◌, ◌∷◌, [], List, sym, subst}
use Rattle.std.specs.Prelude.{IfOk}
use Rattle.sml_tree.specs.BareTree.{ExBind as SourceBind}
use Rattle.sml_tree.specs.TreeOf.{ex_bind_of}
use Rattle.sml_tree.specs.declared.tree.ExBind.{ExBind}
use Rattle.closed_types.specs.of_elab_state.declared.state.State.{State}
use Rattle.closed_types.proofs.of_elab_steps.Changing.{if-ok}
use Rattle.dec_forms.specs.Exceptions.{AreExns}
use Rattle.dec_forms.proofs.exns.add_exn.Goals as goal

pub returns-in-New : goal.returns-in-New
returns-in-New c =
    subst
    (λ (b : ExBind). IfOk c.add_new.result
    (λ x. (S : State) (bs : List SourceBind) → AreExns S c.args.context.now bs c.args.state.now c.args.made.now
    → AreExns S c.args.context.now (bs ++ ex_bind_of b ∷ []) c.add_new.new.state c.add_new.new.made))
    (sym c.in-New.is) c.add_new.ensures

pub returns-in-Same : goal.returns-in-Same
returns-in-Same c =
    if-ok c.add_same.result
    (λ x f S bs h. subst (λ (b : ExBind). AreExns S c.args.context.now (bs ++ ex_bind_of b ∷ []) c.args.state.now c.add_same.new.made) (sym c.in-Same.is) (f S c.args.state.now bs c.requires h))
    c.add_same.ensures.added
