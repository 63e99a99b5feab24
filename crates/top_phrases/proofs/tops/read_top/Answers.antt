use Rattle.phrase_base.specs.Left.{left}
use Rattle.top_phrases.proofs.Reading.{dec-done}
use Rattle.top_phrases.proofs.tops.read_top.Goals as goal

pub returns : goal.returns
returns g c =
    let s = c.args.source.now in
    let w = c.in_ok-it-3.ensures.gives in
    let h = dec-done g.R.CoreReader.dec_of c.args.it s c.args.n c.args.fix.now (left s c.args.tokens.now) c.in_default.ensures c.in_default-after_word.ensures c.read_str_dec.new.fix c.in_ok-it-3.field-0.it c.in_ok-it-3.field-0.depth c.in_ok-it-3.field-0.rest.now w.got c.as_top.result w.is w.same
    (c.as_top.ensures g.R.CoreReader.dec_of) in
    record { gives = record { got = h.got; is = h.is; same = h.same } }
