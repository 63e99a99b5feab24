use Rattle.std.proofs.Common.{arith}
use Rattle.mono_enter.proofs.Keeping.{on-ok, entered-known}
use Rattle.mono_enter.proofs.constructors.add_found.Goals as goal

pub returns-clause-known : goal.returns-clause-known
returns-clause-known c =
    on-ok _ _ c.enter.result
    (λ e u closed known h. entered-known c.argument_number.new.types c.enter.new.self c.args.n c.args.constructor c.in_ok-argument.argument (let q = c.if-n-len.false in let r = c.len.ensures.is in omega (arith, q, r)) e closed known
    (c.in_ok-argument.ensures.keeps.known closed known h)) c.enter.ensures.ok
