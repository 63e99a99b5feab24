-- What the readers of expressions and declarations read is in the grammar, and where they answer deep a partial phrase is there.
use Rattle.std.proofs.Common.{ℕ}
use Rattle.sml_grammar.specs.Expressions.{readers}
use Rattle.sml_grammar.proofs.ExpGiven.{below, far_below}
use Rattle.sml_grammar.proofs.ExpSoundAtoms.{Sounds, SoundsAtom, SoundsDecs}
use Rattle.sml_grammar.proofs.ExpSound.{readers-sound}
use Rattle.sml_grammar.proofs.ExpFarAtoms.{Fars, FarsAtom, FarsDecs}
use Rattle.sml_grammar.proofs.ExpFar.{readers-far}

pub exp-sound : (n : ℕ) → Sounds n (readers n).exp
exp-sound n = (readers-sound below n).exp

pub atom-sound : (n : ℕ) → SoundsAtom n (readers n).atom
atom-sound n = (readers-sound below n).atom

pub decs-sound : (n : ℕ) → SoundsDecs n (readers n).decs
decs-sound n = (readers-sound below n).decs

pub atom-far : (n : ℕ) → FarsAtom n (readers n).atom
atom-far n = (readers-far below far_below n).atom
