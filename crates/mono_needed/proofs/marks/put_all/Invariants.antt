use Rattle.std.proofs.Common.{◌≡◌, take}
use Rattle.mono_needed.specs.Gathering.{AreMarked, added}
use Rattle.mono_needed.proofs.marks.put_all.Given as goal

abbrev pub invariant-loop-i : goal.invariant-loop-i
invariant-loop-i l = record {
  marked : AreMarked l.needed.items l.marks.items;
  put : l.needed.items ≡ added l.fn.needed.items (take l.i l.numbers);
}
