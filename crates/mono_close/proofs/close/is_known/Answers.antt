use Rattle.std.proofs.Common.{sym}
use Rattle.mono_close.proofs.close.is_known.Goals as goal

pub returns-in-Some : goal.returns-in-Some
returns-in-Some c = λ h. (c.in-Some.field-0.now, sym c.in-Some.ensures.value)
