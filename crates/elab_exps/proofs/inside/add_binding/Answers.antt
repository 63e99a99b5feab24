use Rattle.elab_steps.proofs.Growing.{type_later}
use Rattle.elab_exps.proofs.Binding.{binding_made}
use Rattle.elab_exps.proofs.Loops.{context_on}
use Rattle.elab_exps.proofs.inside.add_binding.Goals as goal

pub add-requires-clause-context : goal.add-requires-clause-context
add-requires-clause-context c =
    context_on c.args.state.now c.binding_pat.new.state c.args.context.now c.binding_pat.new.context c.requires.context c.in_ok-pat.ensures.grows c.in_ok-pat.ensures.context

pub add-requires-clause-exp : goal.add-requires-clause-exp
add-requires-clause-exp c = type_later c.args.state.now c.binding_pat.new.state c.args.exp.ty c.in_ok-pat.ensures.grows c.requires.exp

pub returns-clause-added : goal.returns-clause-added
returns-clause-added c S N rs h x =
    binding_made S N c.args.state.now c.binding_pat.new.state c.add.new.state c.args.context.now c.binding_pat.new.context c.args.begun.tyvars rs c.args.bind.now c.is_general-general.result
    c.in_ok-pat.pat c.args.exp c.args.inside.now.bound.items c.deref-bound.result.now c.args.inside.now.flags.items c.add.new.flags.items c.args.inside.now.binds.items
    c.add.new.binds.items c.requires.within.inside c.in_ok-pat.ensures.context c.in_ok-pat.ensures.grows x h c.binding_pat.new.bound.items c.deref-bound.ensures.value
    c.is_general-general.ensures c.in_ok-pat.ensures.inside c.in_ok-pat.ensures.outside c.in_ok-add.ensures.generalised c.in_ok-add.ensures.plain
