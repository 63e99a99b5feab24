use Rattle.std.proofs.Common.{map, arith}
use Rattle.first_tables.specs.TablesOf.{member_of}
use Rattle.ssa_tree.specs.TreeOf.{fun_of}
use Rattle.emit_sets.proofs.Members.{widest-least}
use Rattle.emit_sets.proofs.sets.widest.Goals as goal

pub loop-member-init : goal.loop-member-init
loop-member-init c =
    let h = widest-least (map fun_of c.args.funs.now) (map member_of c.args.members.now) in
    record { least = omega arith; so-far = omega (arith, h) }
