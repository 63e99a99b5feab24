use Rattle.ir_poly.proofs.ProgTypedLemmas.{typed-read, decs-read}
use Rattle.ir_poly.proofs.TypedLemmas.{reads_none}
use Rattle.ir_poly.proofs.law.checked_prog_is_typed.Goals as goal

pub returns-clause-whole : goal.returns-clause-whole
returns-clause-whole c table ds G h s = let k = decs-read h s (λ v k. absurd (cc)) reads_none in (k.0, k.1)

pub returns-clause-under : goal.returns-clause-under
returns-clause-under c table D e t h s f = typed-read h s f reads_none
