use Rattle.pat_elab.proofs.of_elab_steps.Growing.{type_later}
use Rattle.exp_forms.proofs.JoiningRules.{exn-use, exp-use, no_rules_are}
use Rattle.exp_forms.proofs.rules.start_handle.Goals as goal

pub returns-clause-started : goal.returns-clause-started
returns-clause-started c S e h =
    let M = c.args.state.now in
    let T = c.packets.new.state in
    let g = c.in_ok-domain.ensures.grows in
    no_rules_are M T c.args.context.now _ c.new.ensures.items g c.in_ok-domain.ensures.is (type_later M T c.args.body.now.ty g h.is)
    (λ W w A t. exn-use M c.args.context.now W A c.in_ok-domain.domain c.requires.context t (c.in_ok-domain.ensures.has W w))
    (λ W w A t. exp-use S M T c.args.context.now e c.args.body.now h g W w A t)
