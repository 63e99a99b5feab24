use Rattle.name_scopes.proofs.Declaring.{exns-brought}
use Rattle.name_scopes.proofs.FromEnd.{reaches-last}
use Rattle.name_scopes.proofs.datas.bind_exns.Goals as goal

pub returns : goal.returns
returns c = exns-brought c.args.binds.now c.args.scope.now c.loop-i.scope (reaches-last _ _ _ _ c.loop-i.invariant c.loop-i-test.false)
