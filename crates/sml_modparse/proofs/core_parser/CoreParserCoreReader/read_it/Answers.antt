use Rattle.phrase_base.specs.Left.{left}
use Rattle.sml_modparse.proofs.Convert.{it-as}
use Rattle.sml_modparse.proofs.core_parser.CoreParserCoreReader.read_it.Goals as goal

pub returns : goal.returns
returns c =
    let s = c.args.source.now in
    let w = c.in_ok-exp.ensures.gives in
    record { gives = record { got = w.got; is = w.is; same = it-as c.args.it s c.args.n (left s c.args.tokens.now) c.in_ok-exp.field-0.it c.in_ok-exp.field-0.depth c.in_ok-exp.field-0.rest.now w.got c.place_at-place.result c.in_ok-made.made w.same c.place_at-place.ensures c.in_ok-made.ensures } }
