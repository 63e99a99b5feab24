use Rattle.mono_read.proofs.Stacked.{atoms-top, atoms-end}
use Rattle.mono_read.proofs.lists.take_atoms.Goals as goal

pub returns-in-Atoms : goal.returns-in-Atoms
returns-in-Atoms c = λ types strings f. atoms-top types strings _ _ c.in_ok-atoms.field-0 c.in-Atoms.atoms f (c.in_ok-atoms.ensures types strings) c.in-Atoms.is

pub returns-in-End : goal.returns-in-End
returns-in-End c = λ types strings f. atoms-end types strings _ _ c.in_ok-atoms.field-0 c.new.result.items f (c.in_ok-atoms.ensures types strings) c.in-End.is c.new.ensures.items
