use Rattle.std.proofs.lemmas.Result.{IfOk-weaker}
use Rattle.mlc_runs.specs.Passes.{BringsNone}
use Rattle.mlc_runs.proofs.PassLaws.{brings-none}
use Rattle.mlc_runs.proofs.pass.ThenPass.pass.Goals as goal

pub returns-clause-exceptions : goal.returns-clause-exceptions
returns-clause-exceptions g c =
    let given = g.From.Form.exceptions c.args.prog in
    let mid = g.Mid.Form.exceptions c.in_ok-mid.mid in
    IfOk-weaker c.pass-2.result (λ to. BringsNone mid (g.To.Form.exceptions to)) (λ to. BringsNone given (g.To.Form.exceptions to))
    (λ to k. brings-none given mid (g.To.Form.exceptions to) c.in_ok-mid.ensures.exceptions k) c.pass-2.ensures.exceptions
