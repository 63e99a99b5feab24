use Rattle.ir_poly.proofs.TypedLemmas.{typed-read, op-read, reads_none}
use Rattle.ir_poly.proofs.law.checked_is_typed.Goals as goal

pub returns-clause-whole : goal.returns-clause-whole
returns-clause-whole c table m e t h s = typed-read h s (λ v k. absurd (cc)) reads_none

pub returns-clause-under : goal.returns-clause-under
returns-clause-under c table D o t h s f = op-read h s f reads_none
