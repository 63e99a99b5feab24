use Rattle.exp_forms.proofs.Entering.{context_within}
use Rattle.exp_forms.proofs.enter.enter.Goals as goal

pub returns-clause-entered : goal.returns-clause-entered
returns-clause-entered c = record {
  grows = c.in_ok-unify.ensures.grows;
  next = c.in_ok-unify.ensures.next;
  same = c.in_ok-unify.ensures.equal;
  once = c.in_ok-check_once.ensures.once;
}

pub returns-clause-context : goal.returns-clause-context
returns-clause-context c =
    context_within c.args.state.now c.unify.new.state c.args.context.now c.bind_all.new.context c.args.bound.now c.in_ok-unify.ensures.grows c.requires.context c.requires.have
    c.in_ok-bind_all.ensures
