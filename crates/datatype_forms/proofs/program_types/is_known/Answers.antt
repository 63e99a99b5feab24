use Rattle.std.proofs.Common.{sym}
use Rattle.datatype_forms.proofs.program_types.is_known.Goals as goal

pub returns-in-Some : goal.returns-in-Some
returns-in-Some c = λ h. (c.in-Some.field-0.now, sym c.in-Some.ensures.value)
