use Rattle.std.proofs.Common.{subst}
use Rattle.elab_steps.proofs.Changing.{if-ok}
use Rattle.pat_elab.specs.Elaborated.{IsPat}
use Rattle.elab_exps.proofs.Taking.{one-pat, several-pats}
use Rattle.elab_exps.proofs.parameters.clause_pat.Goals as goal

pub returns-then-pats-eq1 : goal.returns-then-pats-eq1
returns-then-pats-eq1 c =
    if-ok c.elab_pat.result
    (λ r k.
    subst (λ a. IsPat c.args.state.now c.args.context.now a c.elab_pat.new.state c.args.bound.now.items c.elab_pat.new.bound.items r)
    (one-pat c.args.place c.args.pats.now c.index-pats-0.result c.if-pats-eq1.true c.index-pats-0.is) k) c.elab_pat.ensures

pub returns : goal.returns
returns c =
    if-ok c.tuple_of.result
    (λ r k.
    subst (λ a. IsPat c.args.state.now c.args.context.now a c.tuple_of.new.state c.args.bound.now.items c.tuple_of.new.bound.items r)
    (several-pats c.args.place c.args.pats.now c.if-pats-eq1.false) k) c.tuple_of.ensures
