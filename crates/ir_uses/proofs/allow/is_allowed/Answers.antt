use Rattle.ty_table.specs.TypeAt.{type_at}
use Rattle.ir_known.specs.of_ir_poly.Types.{admits_in}
use Rattle.ir_known.specs.Knows.{marks_of}
use Rattle.ir_uses.proofs.ClassLemmas.{mark-decided}
use Rattle.ir_uses.proofs.allow.is_allowed.Goals as goal

pub returns-clause-decided : goal.returns-clause-decided
returns-clause-decided c = mark-decided c.args.mark (admits_in (marks_of c.args.scope.now)) (type_at c.args.types.now c.args.t) c.in_ok-yes.yes c.in_ok-yes.ensures
