use Rattle.name_scopes.proofs.Declaring.{tycons-brought}
use Rattle.name_scopes.proofs.FromEnd.{reaches-last}
use Rattle.name_scopes.proofs.datas.bind_names.Goals as goal

pub returns : goal.returns
returns c bs = tycons-brought bs c.args.datas.now c.args.scope.now c.loop-i.scope (reaches-last _ _ _ _ c.loop-i.invariant c.loop-i-test.false)
