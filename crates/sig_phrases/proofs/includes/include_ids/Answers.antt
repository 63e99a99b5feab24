use Rattle.std.proofs.Common.{arith}
use Rattle.phrase_base.specs.Left.{left}
use Rattle.sig_phrases.proofs.Ids.{ids-done}
use Rattle.sig_phrases.proofs.includes.include_ids.Goals as goal

pub returns : goal.returns
returns c = record {
  gives = λ p e.
      let s = c.args.source.now in
      let g = c.in_ok-it.ensures.gives in
      let h = ids-done s c.args.n p (left s c.args.tokens.now) (left s c.in-Some.found.1.now) c.in-Some.found.0 c.place_at.result c.args.place c.in_ok-it.field-0.it.items c.in_ok-it.field-0.depth c.in_ok-it.field-0.rest.now g.got c.included_ids.result (omega arith) c.in-Some.ensures
      g.is g.same c.place_at.ensures e (rw c.in_ok-all.ensures at c.included_ids.ensures) in
      record { got = h.got; is = h.is; same = h.same };
}
