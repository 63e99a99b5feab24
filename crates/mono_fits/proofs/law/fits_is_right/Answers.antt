use Rattle.mono_fits.proofs.Right.{fits-is-right}
use Rattle.mono_fits.proofs.law.fits_is_right.Goals as goal

pub returns : goal.returns
returns c = fits-is-right
