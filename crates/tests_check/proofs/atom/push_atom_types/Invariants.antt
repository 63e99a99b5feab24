use Rattle.std.proofs.Common.{◌≡◌, [], take}
use Rattle.tests_check.proofs.Atoms.{AreOf}
use Rattle.tests_check.proofs.atom.push_atom_types.Given as goal

abbrev pub invariant-loop-i : goal.invariant-loop-i
invariant-loop-i l = l.fn.found.items ≡ [] → AreOf l.tables l.scope (take l.i l.atoms) l.found.items
