use Rattle.name_scopes.specs.declared.sought.What.TheVariants as whats
use Rattle.name_scopes.proofs.Among.{among-at}
use Rattle.name_scopes.proofs.TwiceNodes.{function-at}
use Rattle.name_scopes.proofs.twice.is_function_at.Goals as goal

pub returns-then-is_either_at : goal.returns-then-is_either_at
returns-then-is_either_at c u =
    function-at c.args.sought.now whats.Twice c.args.functions.now c.index-functions-i.result
    (among-at c.args.functions.now c.loop-i.i c.index-functions-i.result c.loop-i-test.true c.index-functions-i.is) (c.if-is_either_at.ensures u)
