use Rattle.std.proofs.Common.{take}
use Rattle.std.specs.Prelude.{flat_map}
use Rattle.sml_tree.specs.TreeOf.{pat_of}
use Rattle.core_rules.specs.Values.{Env}
use Rattle.name_scopes.specs.Covering.{Covers}
use Rattle.name_scopes.specs.Patterns.{pat_vids}
use Rattle.name_scopes.proofs.Pushing.{Added}
use Rattle.name_scopes.proofs.vids.push_binds.Given as goal

abbrev pub invariant-loop-i : goal.invariant-loop-i
invariant-loop-i l = (e : Env) → Covers l.scope e → Added l.fn.vids.items l.vids.items (flat_map (λ b. pat_vids e (pat_of b.pat)) (take l.i l.binds))
