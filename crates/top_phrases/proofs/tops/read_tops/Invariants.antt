use Rattle.std.proofs.Common.{length}
use Rattle.module_grammar.specs.Sources.{read_source}
use Rattle.phrase_base.specs.Left.{left}
use Rattle.top_phrases.proofs.Reading.{TopsGoing}
use Rattle.top_phrases.proofs.tops.read_tops.Given as goal

abbrev pub invariant-tops : goal.invariant-tops
invariant-tops g l = TopsGoing g.R.CoreReader.dec_of l.it l.source l.n l.fn.fix l.fix l.fresh (left l.source l.rest) l.tops.items (read_source l.n l.fn.fix (left l.source l.tokens))

abbrev pub decreases-tops : goal.decreases-tops
decreases-tops g l = length (left l.source l.rest)
