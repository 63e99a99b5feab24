use Rattle.dec_forms.proofs.Several.{dec_is}
use Rattle.dec_forms.proofs.law.bringings_are_declarations.Goals as goal

pub returns : goal.returns
returns c S T C D d xs a b n h = dec_is S T C D d xs a b n h
