use Rattle.std.proofs.Common.{◌≡◌, ◌≤◌, length, take}
use Rattle.ir_first.specs.Tree as out
use Rattle.capture_scope.specs.Seen.{members_of}
use Rattle.closure_parts.specs.Pieces.{followers}
use Rattle.closure_meaning.specs.Convert.{Numbering}
use Rattle.closure_parts.specs.Puts.{before}
use Rattle.closure_parts.specs.Tagged.{HasTags}
use Rattle.closure_parts.proofs.making.push_followers.Given as goal

abbrev pub invariant-loop-left : goal.invariant-loop-left
invariant-loop-left l = record {
  within : l.left ≤ length l.others;
  put : (n : Numbering) → HasTags l.tags n
      → (e : out.Exp) → before l.steps.items (followers n l.first (members_of (take l.left l.others)) e) ≡ before l.fn.steps.items (followers n l.first (members_of l.others) e);
}

abbrev pub decreases-loop-left : goal.decreases-loop-left
decreases-loop-left l = l.left
