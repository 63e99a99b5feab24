use Rattle.std.proofs.Common.{◌≡◌, [], map, replicate}
use Rattle.datatype_equality.proofs.Made.{items_of}
use Rattle.datatype_equality.proofs.graph.Graph.new.Given as goal

abbrev pub invariant-loop : goal.invariant-loop
invariant-loop l = map items_of l.rests.items ≡ replicate l.counter []
