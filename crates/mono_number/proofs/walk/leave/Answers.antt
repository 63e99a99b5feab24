use Rattle.std.proofs.Common.{None, refl}
use Rattle.mono_number.proofs.Moving.{left-is}
use Rattle.mono_number.proofs.walk.leave.Goals as goal

pub returns-in-Some-clause-left : goal.returns-in-Some-clause-left
returns-in-Some-clause-left c =
    left-is c.args.limit (λ n. None) c.in-Some.part c.args.walk.now (record { names = c.truncate.new.self; next = c.args.walk.now.next; frames = c.pop.new.self; made = c.args.walk.now.made }) c.requires c.in-Some.ensures.items c.truncate.ensures refl refl
