use Rattle.name_scopes.proofs.Declaring.{datas-brought}
use Rattle.name_scopes.proofs.FromEnd.{reaches-last}
use Rattle.name_scopes.proofs.datas.bind_datas.Goals as goal

pub returns : goal.returns
returns c bs = datas-brought bs c.args.datas.now c.args.scope.now c.loop-i.scope (reaches-last _ _ _ _ c.loop-i.invariant c.loop-i-test.false)
