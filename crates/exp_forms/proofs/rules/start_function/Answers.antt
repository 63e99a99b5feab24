use Rattle.pat_elab.proofs.of_elab_steps.Growing.{grows_on, type_later, comes_before}
use Rattle.exp_forms.proofs.JoiningRules.{none-use, no_rules_are}
use Rattle.exp_forms.proofs.rules.start_function.Goals as goal

pub returns : goal.returns
returns c =
    let S = c.args.state.now in
    let M = c.fresh_type.new.state in
    let T = c.fresh_type-2.new.state in
    let g = c.in_ok-range.ensures.grows in
    no_rules_are S T c.args.context.now _ c.new.ensures.items (grows_on S M T c.in_ok-domain.ensures.grows g) (type_later M T c.in_ok-domain.domain g c.in_ok-domain.ensures.is)
    c.in_ok-range.ensures.is
    (λ W w A t.
    none-use c.args.context.now W A S c.limit.result c.in_ok-domain.domain c.requires.context t c.limit.ensures (c.in_ok-domain.ensures.within W (comes_before M T W g w)))
    (λ W w A t. none-use c.args.context.now W A S c.limit-2.result c.in_ok-range.range c.requires.context t c.limit-2.ensures (c.in_ok-range.ensures.within W w))
