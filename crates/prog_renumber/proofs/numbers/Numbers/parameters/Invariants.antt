use Rattle.std.proofs.Common.{◌≡◌, map, take}
use Rattle.prog_renumber.specs.Renumbered.{parameter_at}
use Rattle.prog_renumber.proofs.numbers.Numbers.parameters.Given as goal

abbrev pub invariant-loop-i : goal.invariant-loop-i
invariant-loop-i l = l.new.items ≡ map (parameter_at l.self) (take l.i l.parameters)
