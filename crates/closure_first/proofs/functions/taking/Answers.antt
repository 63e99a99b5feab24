use Rattle.std.proofs.Common.{◌∙◌}
use Rattle.first_tree.specs.TreeOf.{tree_of}
use Rattle.mono_bound.specs.Reads.{mono_of}
use Rattle.closure_first.proofs.Entering.{begun-in, begun-same, taking-is}
use Rattle.closure_first.proofs.functions.taking.Goals as goal

pub returns-clause-scope : goal.returns-clause-scope
returns-clause-scope c = begun-same c.args.scope.now c.convert.new.scope c.args.parameter (c.in_ok-made.ensures.scope ∙ c.in_ok-begin.ensures.ok)

pub returns-clause-code : goal.returns-clause-code
returns-clause-code c = λ strings n F T h g ms k.
    taking-is n c.args.types.now F T c.args.first g ms c.args.parameter c.args.scope.now.captured c.begin.new.self _ (tree_of c.in_ok-made.made)
    k.0 (begun-in c.args.scope.now c.begin.new.self ms c.args.parameter c.in_ok-begin.ensures.ok k.1) (c.in_ok-entered.ensures n c.args.types.now F T) (mono_of c.args.types.now strings c.args.body.now)
    (c.in_ok-made.ensures.made strings n F T h)
