use Rattle.first_tree.specs.TreeOf.{tree_of}
use Rattle.closure_first.proofs.Entering.{entered-is}
use Rattle.closure_first.proofs.functions.entered.Goals as goal

pub returns : goal.returns
returns c = λ n types F T.
    entered-is n types F T c.args.first c.args.parameter c.in_ok-name.name c.self_name.result c.in_ok-params.params.items c.new-steps.result.items c.push_opening.new.steps.items (tree_of c.args.body) (tree_of c.in_ok-body.body)
    c.in_ok-params.ensures (c.self_name.ensures n types F T) c.in_ok-name.ensures c.new-steps.ensures.items (c.in_ok-push_opening.ensures n types F T) c.in_ok-body.ensures
