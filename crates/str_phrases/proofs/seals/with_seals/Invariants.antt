use Rattle.std.proofs.Common.{length}
use Rattle.phrase_base.specs.Left.{left}
use Rattle.str_phrases.proofs.Sealing.{SealsGoing}
use Rattle.str_phrases.proofs.seals.with_seals.Given as goal

abbrev pub invariant-suffixes : goal.invariant-suffixes
invariant-suffixes g l = SealsGoing l.source l.n l.place l.fn.first l.fn.depth l.tokens l.str l.deep l.rest

abbrev pub decreases-suffixes : goal.decreases-suffixes
decreases-suffixes g l = length (left l.source l.rest)
