use Rattle.std.proofs.Common.{None, sym, subst, arith}
use Rattle.name_scopes.specs.Covering.{StructureFits}
use Rattle.name_scopes.proofs.Qualified.{long-structure-none}
use Rattle.name_scopes.proofs.look_ups.find_structure.Goals as goal

pub returns-else-len-eq0 : goal.returns-else-len-eq0
returns-else-len-eq0 c e h =
    subst (StructureFits None) (sym (long-structure-none c.args.scope.now e c.args.long.now.qualifiers.items c.args.long.now.id h (omega arith))) tt
