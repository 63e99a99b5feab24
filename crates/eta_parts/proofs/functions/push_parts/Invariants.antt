use Rattle.std.proofs.Common.{◌≡◌, ◌+◌, length, drop}
use Rattle.eta_parts.proofs.Parts.{PartsTaken, Numbered}
use Rattle.eta_parts.proofs.functions.push_parts.Given as goal

abbrev pub invariant-loop-i : goal.invariant-loop-i
invariant-loop-i l = record {
  steps : PartsTaken l.tuple.ty l.tuple.variable l.parts l.i l.fn.next l.next l.fn.steps.items l.steps.items;
  variables : Numbered l.parts l.i l.fn.next l.next l.variables.items;
  news : l.next + length (drop l.i l.parts) ≡ l.fn.next + length l.parts;
}
