use Rattle.std.proofs.Common.{◌≡◌, ◌++◌, map, drop, get_or}
use Rattle.first_tables.specs.TablesOf.{member_of}
use Rattle.machine_code.specs.Image.{placed}
use Rattle.emit_code.specs.Tags.{target_of}
use Rattle.emit_sets.proofs.sets.placed.Given as goal

abbrev pub invariant-loop-member : goal.invariant-loop-member
invariant-loop-member l =
    map target_of l.targets.items ++ placed (λ f. get_or l.funs f l.other) (map member_of (drop l.member-index l.members))
    ≡ placed (λ f. get_or l.funs f l.other) (map member_of l.members)
