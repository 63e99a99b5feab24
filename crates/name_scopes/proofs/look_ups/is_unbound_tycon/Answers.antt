use Rattle.std.proofs.Common.{arith}
use Rattle.name_scopes.proofs.Qualified.{long-tycon-none}
use Rattle.name_scopes.proofs.look_ups.is_unbound_tycon.Goals as goal

pub returns-then-len-gt0 : goal.returns-then-len-gt0
returns-then-len-gt0 c u e h = long-tycon-none c.args.scope.now e c.args.long.now.qualifiers.items c.args.long.now.id h (omega arith)
