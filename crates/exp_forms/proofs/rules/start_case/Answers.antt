use Rattle.pat_elab.proofs.of_elab_steps.Growing.{type_later}
use Rattle.exp_forms.proofs.JoiningRules.{exp-use, none-use, no_rules_are}
use Rattle.exp_forms.proofs.rules.start_case.Goals as goal

pub returns-clause-started : goal.returns-clause-started
returns-clause-started c S e h =
    let M = c.args.state.now in
    let T = c.fresh_type.new.state in
    let g = c.in_ok-range.ensures.grows in
    no_rules_are M T c.args.context.now _ c.new.ensures.items g (type_later M T c.args.taken.now.ty g h.is) c.in_ok-range.ensures.is
    (λ W w A t. exp-use S M T c.args.context.now e c.args.taken.now h g W w A t)
    (λ W w A t. none-use c.args.context.now W A M c.limit.result c.in_ok-range.range c.requires.context t c.limit.ensures (c.in_ok-range.ensures.within W w))
