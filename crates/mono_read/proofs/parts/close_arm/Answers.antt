use Rattle.std.proofs.Common.{refl}
use Rattle.mono_read.specs.Reads.{open_in}
use Rattle.mono_read.proofs.Stacked.{arm-closed}
use Rattle.mono_read.proofs.parts.close_arm.Goals as goal

pub returns : goal.returns
returns c = λ types strings.
    arm-closed types strings c.args.arms.items c.push.new.self.items (record { case = c.args.case; body = c.in_ok-body.body }) c.args.case (open_in types strings c.args.taken.steps.items c.args.taken.end) c.in_ok-push.ensures.items refl (c.in_ok-body.ensures types strings)
