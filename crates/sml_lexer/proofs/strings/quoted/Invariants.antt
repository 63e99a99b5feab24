use Rattle.std.proofs.Common.{◌≡◌, ◌-◌, ◌≤◌, [], length, drop}
use Rattle.sml_lexer.specs.Strings.{quoted}
use Rattle.sml_lexer.proofs.strings.quoted.Given as goal

abbrev pub invariant-loop-at : goal.invariant-loop-at
invariant-loop-at l = record { same : quoted 0 [] (drop l.fn.from l.text) ≡ quoted 0 l.value.items (drop l.at l.text); forward : l.fn.from ≤ l.at }

abbrev pub decreases-loop-at : goal.decreases-loop-at
decreases-loop-at l = length l.text - l.at
