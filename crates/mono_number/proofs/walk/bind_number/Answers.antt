use Rattle.std.proofs.Common.{None, refl, arith}
use Rattle.mono_number.proofs.Given.{if-ok}
use Rattle.mono_number.proofs.Moving.{bound-to}
use Rattle.mono_number.proofs.walk.bind_number.Goals as goal

pub returns : goal.returns
returns c =
    if-ok _ _ c.bind.result
    (λ u h. bound-to c.args.limit (λ n. None) c.args.copy c.args.number c.args.walk.now (record { names = c.bind.new.self; next = c.args.walk.now.next; frames = c.args.walk.now.frames; made = c.args.walk.now.made }) c.requires
    (let q = c.if-copy-limit.false in omega (arith, q)) h refl refl refl)
    c.bind.ensures.bound
