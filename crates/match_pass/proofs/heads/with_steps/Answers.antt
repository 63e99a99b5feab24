use Rattle.std.proofs.Common.{ap}
use Rattle.plain_tree.specs.TreeOf.{fun_of}
use Rattle.general_bindings.specs.of_match_types.Views.{reading}
use Rattle.match_pass.proofs.heads.with_steps.Goals as goal

pub returns : goal.returns
returns c = λ v. ap (fun_of (reading v) c.args.head.parameters.items c.args.head.last) (c.in_ok-body.ensures v)
