use Rattle.std.proofs.Common.{length}
use Rattle.emit_parts.proofs.search.+push_search.Given as goal

abbrev pub decreases-push_search : goal.decreases-push_search
decreases-push_search l = length l.targets.now
