use Rattle.std.proofs.Common.{ap}
use Rattle.prog_tree.specs.TreeOf.{decs_of}
use Rattle.prog_renumber.proofs.Each.{on-ok}
use Rattle.prog_renumber.proofs.body.renumber.Goals as goal

pub returns : goal.returns
returns c = on-ok c.all_declarations.result (λ new e Q. ap decs_of (e Q)) c.all_declarations.ensures
