use Rattle.std.proofs.Common.{◌≡◌, ℕ, map, drop}
use Rattle.std.specs.Prelude.{max}
use Rattle.first_tables.specs.TablesOf.{member_of}
use Rattle.machine_code.specs.Image.{tags_end, placed}
use Rattle.emit_sets.proofs.sets.members_end.Given as goal

abbrev pub invariant-loop-member : goal.invariant-loop-member
invariant-loop-member l = (fun_at : ℕ → ℕ) →
    max l.end (tags_end (placed fun_at (map member_of (drop l.member-index l.members)))) ≡ tags_end (placed fun_at (map member_of l.members))
