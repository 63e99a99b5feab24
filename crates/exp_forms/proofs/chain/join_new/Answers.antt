use Rattle.sml_tree.specs.Derived.{infix_app}
use Rattle.pat_elab.proofs.of_elab_context.Reading.{context_later}
use Rattle.pat_elab.proofs.of_elab_steps.Growing.{grows_on, type_later}
use Rattle.exp_forms.proofs.JoiningChains.{joined_new}
use Rattle.exp_forms.proofs.chain.join_new.Goals as goal

pub join-requires-clause-context : goal.join-requires-clause-context
join-requires-clause-context c = context_later c.args.state.now c.fresh_type.new.state c.args.context.now c.in_ok-right.ensures.grows c.requires.context

pub join-requires-clause-left : goal.join-requires-clause-left
join-requires-clause-left c = type_later c.args.state.now c.fresh_type.new.state c.args.left c.in_ok-right.ensures.grows c.requires.left

pub unify-requires-clause-a : goal.unify-requires-clause-a
unify-requires-clause-a c =
    type_later c.args.state.now c.join.new.state c.args.whole (grows_on c.args.state.now c.fresh_type.new.state c.join.new.state c.in_ok-right.ensures.grows c.in_ok-joined.ensures.grows) c.requires.whole

pub unify-requires-clause-b : goal.unify-requires-clause-b
unify-requires-clause-b c = c.in_ok-joined.ensures.whole_is

pub returns : goal.returns
returns c =
    joined_new c.args.state.now c.fresh_type.new.state c.join.new.state c.unify.new.state c.args.context.now (infix_app c.args.place c.args.operator.place c.args.operator.vid) c.args.left
    c.in_ok-right.right c.args.whole c.in_ok-joined.joined c.in_ok-right.ensures.grows c.requires.whole c.in_ok-joined.ensures c.in_ok-unify.ensures.grows c.in_ok-unify.ensures.equal
