use Rattle.sml_tree.specs.TreeOf.{ty_of}
use Rattle.elab_types.specs.Whole.{IsAnnotationRefused}
use Rattle.elab_types.proofs.Keeping.{passes}
use Rattle.elab_types.proofs.Knowing.{known_where}
use Rattle.elab_types.proofs.Wholes.{passed-on}
use Rattle.elab_types.proofs.whole.annotation.Goals as goal

pub returns-in_err-number-clause-refused : goal.returns-in_err-number-clause-refused
returns-in_err-number-clause-refused c =
    passes c.from_residual.result c.in_err-number.field-0.0 c.from_residual.ensures.1 (IsAnnotationRefused c.args.types.now c.args.scope.now (ty_of c.args.ty.now))
    (passed-on c.args.types.now c.args.scope.now (ty_of c.args.ty.now) c.in_err-number.field-0.0 c.in_err-number.ensures.refused)

pub returns-clause-known : goal.returns-clause-known
returns-clause-known c = known_where c.args.types.now c.number_of.new.types c.args.scope.now (ty_of c.args.ty.now) c.in_ok-number.number c.in_ok-number.ensures.is
