use Rattle.std.proofs.Common.{take}
use Rattle.std.specs.Prelude.{flat_map}
use Rattle.sml_tree.specs.TreeOf.{pat_of}
use Rattle.name_scopes.specs.Patterns.{each_vids}
use Rattle.name_scopes.proofs.Pushing.{Added}
use Rattle.name_scopes.proofs.vids.push_recs.Given as goal

abbrev pub invariant-loop-i : goal.invariant-loop-i
invariant-loop-i l = Added l.fn.vids.items l.vids.items (flat_map (λ b. each_vids (pat_of b.pat)) (take l.i l.binds))
