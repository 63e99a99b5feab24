use Rattle.prog_check.proofs.ProgramLemmas.{check-sound, check-complete}
use Rattle.prog_check.proofs.law.decides_prog.Goals as goal

pub returns : goal.returns
returns c p = (λ h. check-sound p h, λ h. check-complete p h)
