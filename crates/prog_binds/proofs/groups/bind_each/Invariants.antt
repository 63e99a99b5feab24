use Rattle.std.proofs.Common.{◌-◌, ◌∷◌, length}
use Rattle.ty_table.specs.TypeAt.{type_at}
use Rattle.prog_known.specs.Onto.{known_by}
use Rattle.prog_known.proofs.OntoLemmas.{Backing}
use Rattle.prog_binds.proofs.groups.bind_each.Given as goal

abbrev pub invariant-loop-i : goal.invariant-loop-i
invariant-loop-i l = Backing l.tables (λ x G. (x, known_by l.tables l.manner (type_at l.tables.types l.ty)) ∷ G) l.names l.fn.variables l.variables (length l.names - l.i)
