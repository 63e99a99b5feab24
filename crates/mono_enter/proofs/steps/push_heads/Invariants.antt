use Rattle.std.proofs.Common.{◌≤◌, length, drop}
use Rattle.mono_enter.specs.Walked.{HeadsPushed}
use Rattle.mono_enter.proofs.steps.push_heads.Given as goal

abbrev pub invariant-loop-at : goal.invariant-loop-at
invariant-loop-at l = record {
  within : l.at ≤ length l.words;
  behind : l.from ≤ l.at;
  heads : HeadsPushed (drop l.at l.words) l.fn.stand l.stand;
}

abbrev pub decreases-loop-at : goal.decreases-loop-at
decreases-loop-at l = l.at
