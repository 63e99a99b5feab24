use Rattle.std.proofs.Common.{◌++◌, refl}
use Rattle.dec_forms.proofs.Several.{more_brought}
use Rattle.dec_forms.proofs.law.more_are_bringing.Goals as goal

pub returns : goal.returns
returns c S M T C D E ds d xs ys old mid new h k = more_brought S M T C D E ds d xs ys (xs ++ ys) old mid new h k refl
