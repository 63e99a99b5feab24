use Rattle.std.proofs.lemmas.Result.{err_from_is_err_and}
use Rattle.sml_grammar.specs.Expressions.{dec_start, dec_by, readers}
use Rattle.phrase_base.specs.Left.{left}
use Rattle.phrase_base.proofs.Loop.{fails-then}
use Rattle.str_phrases.specs.CoreRead.{inner_core}
use Rattle.str_phrases.proofs.Locals.{core-done}
use Rattle.str_phrases.proofs.plain.core_dec.Goals as goal

pub returns : goal.returns
returns g c =
    let s = c.args.source.now in
    let w = c.in_ok-it.ensures.gives in
    let h = core-done g.R.CoreReader.dec_of c.args.fix.now c.read_dec.new.fix s c.args.n (left s c.args.tokens.now) c.in_ok-it.field-0.it c.as_item.result c.in_ok-it.field-0.depth c.in_ok-it.field-0.rest.now w.got w.is w.same (c.as_item.ensures.list g.R.CoreReader.dec_of) c.as_item.ensures.core in
    record { gives = record { got = h.got; is = h.is; same = h.same } }
