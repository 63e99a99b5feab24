use Rattle.std.proofs.Common.{ap, ◌∙◌}
use Rattle.module_tree.specs.BareModules as bare
use Rattle.phrase_base.specs.Left.{left}
use Rattle.top_phrases.proofs.Reading.{exp-done}
use Rattle.top_phrases.proofs.tops.read_exp_top.Goals as goal

pub returns : goal.returns
returns g c =
    let s = c.args.source.now in
    let w = c.in_ok-exp.ensures.gives in
    let kept = c.in_ok-held.ensures.first in
    let h = exp-done g.R.CoreReader.dec_of c.args.it s c.args.n c.args.fix.now (left s c.args.tokens.now) c.in_ok-exp.exp.it c.in_ok-exp.exp.depth c.in_ok-exp.exp.rest.now c.in_ok-held.rest.now w.got c.declared.result w.is w.same (rw c.in_ok-held.ensures.second at c.past.ensures.word)
    (rw kept at (c.declared.ensures g.R.CoreReader.dec_of ∙ ap bare.str_top (c.core.ensures g.R.CoreReader.dec_of))) in
    record { gives = record { got = h.got; is = h.is; same = h.same } }
