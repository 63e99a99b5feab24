use Rattle.std.proofs.Common.{◌-◌, length}
use Rattle.prog_known.proofs.OntoLemmas.{Backing}
use Rattle.prog_binds.specs.Chains.{member_step}
use Rattle.prog_binds.proofs.groups.bind_members.Given as goal

abbrev pub invariant-loop-i : goal.invariant-loop-i
invariant-loop-i l = Backing l.tables (member_step l.tables l.manner) l.members l.fn.variables l.variables (length l.members - l.i)
