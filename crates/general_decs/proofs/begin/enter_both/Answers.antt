use Rattle.std.proofs.Common.{refl}
use Rattle.general_decs.proofs.Beginning.{context_deeper, context_entered}
use Rattle.general_decs.proofs.begin.enter_both.Goals as goal

pub returns-clause-deeper : goal.returns-clause-deeper
returns-clause-deeper c = context_deeper c.args.state.now c.enter.new.state c.args.context.now _ c.requires.level c.in_ok-first.ensures.enters c.in_ok-first.ensures.low refl

pub returns-clause-context : goal.returns-clause-context
returns-clause-context c = context_entered c.args.state.now c.enter.new.state c.args.context.now _ c.requires.level c.requires.context c.in_ok-first.ensures.enters c.in_ok-first.ensures.low refl
