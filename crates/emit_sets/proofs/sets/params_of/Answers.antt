use Rattle.std.proofs.Common.{arith}
use Rattle.emit_sets.proofs.Members.{params-at, no-params}
use Rattle.emit_sets.proofs.sets.params_of.Goals as goal

pub returns-in-Some : goal.returns-in-Some
returns-in-Some c =
    let h = c.in-Some.ensures.lookup in
    let ok = c.in-Some.fun.now.params.ok in
    let long = params-at c.args.funs.now c.args.function c.in-Some.fun.now c.in-Some.fun.now h.3.0 h.1 in
    omega (arith, ok, long, c.len.ensures)

pub returns-in-None : goal.returns-in-None
returns-in-None c = let h = c.in-None.ensures.lookup in no-params c.args.funs.now c.args.function h.3
