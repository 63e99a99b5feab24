use Rattle.phrase_base.specs.Left.{left}
use Rattle.top_phrases.proofs.Bindings.{specs-done}
use Rattle.top_phrases.proofs.functors.parameter.Goals as goal

pub returns-in_ok-got-in-None : goal.returns-in_ok-got-in-None
returns-in_ok-got-in-None g c = record {
  gives = λ p e.
      let s = c.args.source.now in
      let w = c.in_ok-got-in-None.ensures.gives in
      let h = specs-done s c.args.n p (left s c.args.tokens.now) c.in_ok-got-in-None.got.it.items c.in_ok-got-in-None.got.depth c.in_ok-got-in-None.got.rest.now w.got c.args.place c.signature.result c.in-None.ensures w.is w.same e c.signature.ensures in
      record { got = h.got; is = h.is; same = h.same };
}
