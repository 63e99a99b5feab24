use Rattle.std.proofs.Common.{◌∙◌}
use Rattle.elab_context.proofs.Reading.{context_later}
use Rattle.elab_steps.proofs.Changing.{if-ok}
use Rattle.rec_groups.proofs.of_pat_elab.Forms.{all-later}
use Rattle.general_decs.proofs.Lowering.{declared-later, outer-later}
use Rattle.general_decs.proofs.finish.finish.Goals as goal

pub finish_lowered-requires-clause-context : goal.finish_lowered-requires-clause-context
finish_lowered-requires-clause-context c = context_later c.args.state.now c.lower_rest.new.state c.args.context.now c.in_ok-lower_rest.ensures.grows c.requires.context

pub finish_lowered-requires-clause-have : goal.finish_lowered-requires-clause-have
finish_lowered-requires-clause-have c = all-later c.args.state.now c.lower_rest.new.state c.in_ok-lower_rest.ensures.grows c.args.bound.now c.requires.have

pub finish_lowered-requires-clause-outer : goal.finish_lowered-requires-clause-outer
finish_lowered-requires-clause-outer c = outer-later c.args.state.now c.lower_rest.new.state _ c.args.begun.first c.in_ok-lower_rest.ensures.grows c.requires.first c.requires.outer

pub returns-clause-brings : goal.returns-clause-brings
returns-clause-brings c =
    if-ok c.finish_lowered.result
    (λ d e S M C p q as_ rs gs i b h f v s.
    e S M C p q as_ rs gs i b
    (declared-later M c.args.state.now c.lower_rest.new.state C c.args.context.now.types rs gs c.args.bound.now c.args.flags.now c.args.binds.items c.args.funs.items h c.in_ok-lower_rest.ensures.grows) f v s)
    c.finish_lowered.ensures.brings

pub returns-clause-context : goal.returns-clause-context
returns-clause-context c =
    if-ok c.finish_lowered.result
    (λ d e S M C rs gs i b h f v.
    e S M C rs gs i b
    (declared-later M c.args.state.now c.lower_rest.new.state C c.args.context.now.types rs gs c.args.bound.now c.args.flags.now c.args.binds.items c.args.funs.items h c.in_ok-lower_rest.ensures.grows) f v)
    c.finish_lowered.ensures.context

pub finish_lowered-requires-clause-level : goal.finish_lowered-requires-clause-level
finish_lowered-requires-clause-level c = c.in_ok-lower_rest.ensures.grows.level ∙ c.requires.level
