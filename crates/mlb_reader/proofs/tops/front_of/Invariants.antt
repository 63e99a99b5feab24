use Rattle.mlb_reader.proofs.TopLemmas.{AreCores}
use Rattle.mlb_reader.proofs.tops.front_of.Given as goal

abbrev pub invariant-loop-top : goal.invariant-loop-top
invariant-loop-top g l = AreCores l.yielded l.decs.items
