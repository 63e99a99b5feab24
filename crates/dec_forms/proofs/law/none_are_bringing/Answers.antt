use Rattle.std.proofs.Common.{[], refl}
use Rattle.dec_forms.proofs.Several.{none_brought}
use Rattle.dec_forms.proofs.law.none_are_bringing.Goals as goal

pub returns : goal.returns
returns c S C b = none_brought S C [] b refl
