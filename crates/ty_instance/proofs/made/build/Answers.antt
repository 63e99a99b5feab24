use Rattle.std.proofs.Common.{Some, ap, ap₂, ◌∙◌}
use Rattle.ty_solve.specs.of_ty_table.TypeAt.{types_at, with_parts}
use Rattle.ty_instance.proofs.Putting.{on-ok}
use Rattle.ty_instance.proofs.made.build.Goals as goal

pub returns-clause-is : goal.returns-clause-is
returns-clause-is c = on-ok c.with_parts.result (λ r p h parts is below. p ∙ ap Some (ap₂ with_parts is (ap (types_at c.args.types.now) (c.deref.ensures.value ∙ c.in_ok-images.ensures h parts is below)))) c.with_parts.ensures.held
