use Rattle.std.proofs.Common.{arith}
use Rattle.general_bindings.proofs.Placing.{placed}
use Rattle.general_bindings.proofs.records.push_placed.Goals as goal

pub returns-clause-puts : goal.returns-clause-puts
returns-clause-puts c = λ t g stands reads.
    let p = c.in_ok-variable.ensures in
    placed _ c.fresh.new.work _ _ _ c.args.operation t g p.keeps p.is (omega (arith, c.len.ensures, c.fresh.new.work.tables.parameters.ok.0)) c.in_ok-push.ensures.items stands reads
