use Rattle.ir_code.proofs.Exact.{exact}
use Rattle.ir_code.proofs.image_law.checks_are_exact.Goals as goal

pub returns : goal.returns
returns c = exact
