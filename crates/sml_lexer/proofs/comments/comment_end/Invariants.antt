use Rattle.std.proofs.Common.{◌≡◌, ◌-◌, ◌+◌, ◌≤◌, ◌<◌, length, drop}
use Rattle.sml_lexer.specs.Comments.{after_comments}
use Rattle.sml_lexer.proofs.comments.comment_end.Given as goal

abbrev pub invariant-loop-at : goal.invariant-loop-at
invariant-loop-at l = record {
  same : after_comments 1 (drop l.fn.from l.text) ≡ after_comments l.open_ones (drop l.at l.text);
  forward : l.fn.from ≤ l.at;
  some_open : 0 < l.open_ones;
  few_open : l.open_ones ≤ l.at + 1;
}

abbrev pub decreases-loop-at : goal.decreases-loop-at
decreases-loop-at l = length l.text - l.at
