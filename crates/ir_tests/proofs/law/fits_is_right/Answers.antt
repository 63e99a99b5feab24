use Rattle.ir_tests.proofs.Right.{fits-is-right}
use Rattle.ir_tests.proofs.law.fits_is_right.Goals as goal

pub returns : goal.returns
returns c = fits-is-right
