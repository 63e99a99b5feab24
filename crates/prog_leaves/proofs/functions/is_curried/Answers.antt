use Rattle.prog_leaves.proofs.Typing.{curried-some, curried-none}
use Rattle.prog_leaves.proofs.functions.is_curried.Goals as goal

pub returns-in-Some : goal.returns-in-Some
returns-in-Some c = curried-some c.args.types.now c.args.parameters.now c.args.argument c.args.given c.args.ty c.in-Some.rest c.is_function.result c.in-Some.ensures c.is_function.ensures

pub returns-in-None : goal.returns-in-None
returns-in-None c = curried-none c.args.types.now c.args.parameters.now c.args.argument c.args.given c.args.ty c.in-None.ensures
