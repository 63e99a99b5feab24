use Rattle.first_tree.specs.TreeOf.{tree_of}
use Rattle.closure_first.proofs.Entering.{begun-in, begun-same, giving-is}
use Rattle.closure_first.proofs.functions.giving.Goals as goal

pub returns-clause-scope : goal.returns-clause-scope
returns-clause-scope c = begun-same c.args.scope.now c.begin.new.self c.args.parameter c.in_ok-begin.ensures.ok

pub returns-clause-code : goal.returns-clause-code
returns-clause-code c = λ types strings n F T h g ms k.
    giving-is n types F T c.args.first g ms c.args.parameter c.args.scope.now.captured c.begin.new.self _ (tree_of c.in_ok-body.body)
    k.0 (begun-in c.args.scope.now c.begin.new.self ms c.args.parameter c.in_ok-begin.ensures.ok k.1) (c.in_ok-entered.ensures n types F T) c.args.next c.new-steps.result.items c.push_making.new.steps.items c.new-steps.ensures.items
    (c.in_ok-push_making.ensures types strings n F T h) c.in_ok-body.ensures
