use Rattle.prog_check.proofs.BindersLemmas.{once-sound, once-complete}
use Rattle.prog_check.proofs.law.decides_once.Goals as goal

pub returns : goal.returns
returns c ds = (λ h. once-sound ds h, λ h. once-complete ds h)
