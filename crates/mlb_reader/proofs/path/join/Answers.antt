use Rattle.std.proofs.Common.{ap, ◌∙◌}
use Rattle.std.specs.String.{string_bytes}
use Rattle.mlb_reader.proofs.SegmentLemmas.{join-first, join-next}
use Rattle.mlb_reader.proofs.path.join.Goals as goal
use Rattle.mlb_reader.proofs.path.join.Goals.{then-index-gt0+in_ok-push_str, else-index-gt0}

pub loop-index-preserved : goal.loop-index-preserved
loop-index-preserved c =
    let segments = c.args.segments.now in
    let pushed = c.in_ok-push_str-2.ensures.bytes in
    elim c.if-index-gt0.branch [
      | then-index-gt0+in_ok-push_str w ↦ join-next segments c.loop-index.index _ c.loop-index-test.true (string_bytes c.loop-index.path) (string_bytes c.if-index-gt0.path) _ w.if-index-gt0.true c.loop-index.invariant (ap string_bytes w.path-is ∙ w.in_ok-push_str.ensures.bytes) pushed
      | else-index-gt0 w ↦ join-first segments c.loop-index.index _ c.loop-index-test.true (string_bytes c.if-index-gt0.path) _ w.if-index-gt0.false (ap string_bytes w.path-is ∙ c.loop-index.invariant) pushed
    ]
