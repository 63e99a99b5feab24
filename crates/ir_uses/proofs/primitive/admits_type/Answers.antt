use Rattle.std.proofs.Common.{◌↔◌, IsTrue, subst}
use Rattle.ty_core.specs.Marks.{Allows}
use Rattle.ty_table.specs.TypeAt.{type_at}
use Rattle.ir_known.specs.of_ir_poly.Types.{admits_in}
use Rattle.ir_known.specs.Knows.{marks_of}
use Rattle.ir_uses.proofs.Describing.{marked-so}
use Rattle.ir_uses.proofs.primitive.admits_type.Goals as goal

pub returns : goal.returns
returns c = subst (λ m. IsTrue c.in_ok-yes.yes ↔ Allows m (admits_in (marks_of c.args.scope.now)) (type_at c.args.types.now c.args.u))
    (marked-so c.primitive_type.result c.args.primitive c.primitive_type.ensures (type_at c.args.types.now c.args.u)) c.in_ok-yes.ensures.fits
