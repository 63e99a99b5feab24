use Rattle.mono_read.specs.Reads.{open_in}
use Rattle.mono_read.proofs.Given.{if-ok}
use Rattle.mono_read.proofs.Stacked.{test-pushed}
use Rattle.mono_read.proofs.parts.push_test.Goals as goal

pub returns : goal.returns
returns c = if-ok _ _ c.push_onto.result (λ u h types strings. test-pushed types strings _ _ c.args.atom c.args.ty c.args.case c.args.arms.items c.reverse.new.self (open_in types strings c.args.taken.steps.items c.args.taken.end) c.reverse.ensures.items (h types strings)) c.push_onto.ensures
