use Rattle.std.proofs.Common.{◌+◌, refl, arith}
use Rattle.mono_number.proofs.Moving.{bound-moves}
use Rattle.mono_number.proofs.walk.bind.Goals as goal

pub returns : goal.returns
returns c = λ known.
    bound-moves c.args.limit known c.args.copy c.args.walk.now (record { names = c.bind.new.self; next = c.args.walk.now.next + 1; frames = c.args.walk.now.frames; made = c.args.walk.now.made }) c.requires
    (let q = c.if-copy-limit.false in omega (arith, q)) c.in_ok-bind.ensures.bound (omega arith) refl refl
