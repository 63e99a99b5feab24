use Rattle.std.proofs.Common.{◌≡◌, ◌≤◌, ◌-◌, min, length, drop}
use Rattle.match_names.proofs.names.Names.restore.Given as goal

abbrev pub invariant-loop-self : goal.invariant-loop-self
invariant-loop-self l = record {
  is : l.self ≡ drop (length l.fn.self - length l.self) l.fn.self;
  low : min l.len (length l.fn.self) ≤ length l.self;
  high : length l.self ≤ length l.fn.self;
}

abbrev pub decreases-loop-self : goal.decreases-loop-self
decreases-loop-self l = length l.self
