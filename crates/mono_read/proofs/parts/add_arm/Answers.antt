use Rattle.std.proofs.Common.{map, reverse}
use Rattle.plain_tree.specs.TreeOf.{case_of, arms_of}
use Rattle.mono_bound.specs.Reads.{reading}
use Rattle.mono_read.specs.Reads.{arm_in, open_in}
use Rattle.mono_read.proofs.Given.{if-ok}
use Rattle.mono_read.proofs.Stacked.{arm-added}
use Rattle.mono_read.proofs.parts.add_arm.Goals as goal

pub returns-in-Ok : goal.returns-in-Ok
returns-in-Ok c = if-ok _ _ c.push.result (λ u h types strings. arm-added types strings _ _ _ (case_of (reading types strings) c.args.case) (open_in types strings c.args.taken.steps.items c.args.taken.end) (arms_of (map (arm_in types strings) (reverse c.in-Ok.arms.items))) (c.in-Ok.ensures types strings) (h types strings)) c.push.ensures
