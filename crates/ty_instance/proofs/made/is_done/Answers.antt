use Rattle.std.proofs.Common.{sym}
use Rattle.ty_instance.specs.Steps.{IsDone}
use Rattle.ty_instance.proofs.made.is_done.Goals as goal

pub returns-in-Some : goal.returns-in-Some
returns-in-Some c = λ h. IsDone.made c.in-Some.field-0.now (sym c.in-Some.ensures.value)
