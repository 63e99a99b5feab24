use Rattle.std.proofs.Common.{take}
use Rattle.std.specs.Prelude.{flat_map}
use Rattle.sml_tree.specs.TreeOf.{pat_of}
use Rattle.core_rules.specs.Values.{Env}
use Rattle.name_scopes.specs.Covering.{Covers}
use Rattle.name_scopes.specs.Patterns.{pat_vids}
use Rattle.name_scopes.proofs.Pushing.{Added}
use Rattle.name_scopes.proofs.vids.+vids.Given as goal

abbrev pub invariant-push_fields-loop-i : goal.invariant-push_fields-loop-i
invariant-push_fields-loop-i l = (e : Env) → Covers l.scope e → Added l.fn.vids.items l.vids.items (flat_map (λ f. pat_vids e (pat_of f.pat)) (take l.i l.fields))

abbrev pub invariant-push_parts-loop-i : goal.invariant-push_parts-loop-i
invariant-push_parts-loop-i l = (e : Env) → Covers l.scope e → Added l.fn.vids.items l.vids.items (flat_map (λ o. pat_vids e (pat_of o.pat)) (take l.i l.parts))

abbrev pub invariant-push_pats-loop-i : goal.invariant-push_pats-loop-i
invariant-push_pats-loop-i l = (e : Env) → Covers l.scope e → Added l.fn.vids.items l.vids.items (flat_map (λ a. pat_vids e (pat_of a)) (take l.i l.pats))
