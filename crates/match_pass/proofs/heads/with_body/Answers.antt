use Rattle.std.proofs.Common.{refl}
use Rattle.match_pass.proofs.heads.with_body.Goals as goal

pub returns : goal.returns
returns c = λ v. refl
