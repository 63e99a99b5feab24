use Rattle.std.proofs.Common.{ap, arith}
use Rattle.elab_state.specs.Readings.{type_if}
use Rattle.elab_state.proofs.Reading.{written-push, written-last}
use Rattle.elab_state.proofs.state.State.write.Goals as goal

pub invariant_of-self : goal.invariant_of-self
invariant_of-self c = record {
  held = written-push _ _ _ _ _ _ c.push.ensures.items c.args.self.now.held c.requires.held c.requires.among;
  ordered = c.args.self.now.ordered;
  rows = c.args.self.now.rows;
}

pub returns-clause-reads : goal.returns-clause-reads
returns-clause-reads c = λ later h g. ap (type_if _ g later.namings.items) (written-last _ _ _ _ _ c.in_ok-push.ensures.items (omega (arith, c.len-number.ensures, c.args.self.now.written.ok.0)) h.written)
