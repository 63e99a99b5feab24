use Rattle.std.proofs.Common.{sym, subst}
use Rattle.std.specs.Result.{IfOk}
use Rattle.mlc_base.specs.declared.place.Place.{Place}
use Rattle.sml_tree.specs.BareTree.{built_exp}
use Rattle.use_elab.specs.Elaborated.{IsExp}
use Rattle.exp_forms.proofs.built.built.Goals as goal

pub returns-in-True : goal.returns-in-True
returns-in-True c =
    subst (λ b. IfOk c.truth.result (λ r. (p : Place) → IsExp c.args.state.now c.args.context.now (built_exp p b) c.truth.new.state r)) (sym c.in-True.is) c.truth.ensures

pub returns-in-False : goal.returns-in-False
returns-in-False c =
    subst (λ b. IfOk c.truth-in-False.result (λ r. (p : Place) → IsExp c.args.state.now c.args.context.now (built_exp p b) c.truth-in-False.new.state r)) (sym c.in-False.is) c.truth-in-False.ensures

pub returns-in-Nil : goal.returns-in-Nil
returns-in-Nil c =
    subst (λ b. IfOk c.nil.result (λ r. (p : Place) → IsExp c.args.state.now c.args.context.now (built_exp p b) c.nil.new.state r)) (sym c.in-Nil.is) c.nil.ensures

pub returns-in-Cons : goal.returns-in-Cons
returns-in-Cons c =
    subst (λ b. IfOk c.cons.result (λ r. (p : Place) → IsExp c.args.state.now c.args.context.now (built_exp p b) c.cons.new.state r)) (sym c.in-Cons.is) c.cons.ensures
