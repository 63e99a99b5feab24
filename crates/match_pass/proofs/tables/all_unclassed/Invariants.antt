use Rattle.std.proofs.Common.{◌≡◌, map, take}
use Rattle.match_compile.specs.Compile as clean
use Rattle.match_pass.proofs.tables.all_unclassed.Given as goal

abbrev pub invariant-loop-i : goal.invariant-loop-i
invariant-loop-i l = map (λ p. p.items) l.made.items ≡ map (λ p. clean.unclassed p.items) (take l.i l.lists)
