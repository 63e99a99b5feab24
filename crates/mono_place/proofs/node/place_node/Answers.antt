use Rattle.std.proofs.Common.{ap, ◌∙◌}
use Rattle.ty_core.specs.Types.{attribute, allowed}
use Rattle.ty_core.specs.TypesOf.{head_of}
use Rattle.monomorphise.specs.Simple.{all_flagged}
use Rattle.mono_place.proofs.Placed.{put-copied}
use Rattle.mono_place.proofs.node.place_node.Goals as goal

pub returns-clause-ok : goal.returns-clause-ok
returns-clause-ok c = put-copied c.args.types.now c.place.new.self (head_of c.args.head.now) (head_of c.in_ok-copy.copy) c.args.parts.items c.is_compared-equality.result c.in_ok-n.n c.len-once.ensures.once c.in_ok-copy.ensures (c.is_compared-equality.ensures ∙ ap (λ ps. allowed (attribute (head_of c.args.head.now)) (all_flagged c.args.types.now ps)) c.deref.ensures.value) c.in_ok-n.ensures.ok
