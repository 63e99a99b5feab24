use Rattle.std.proofs.Common.{◌≡◌, length, reverse, ap, sym, ◌∙◌, subst, IfOk, lit<}
use Rattle.std.specs.String.{string_bytes}
use Rattle.std.proofs.lemmas.Iterator.Consumers.{YieldsList-turn, YieldsList-end}
use Rattle.std.proofs.lemmas.Iterator.Splits.{YieldsList-from_str_split}
use Rattle.std.proofs.lemmas.List.{length_push, reverse-reverse}
use Rattle.mlb_reader.specs.Path.{clean, joined}
use Rattle.mlb_reader.specs.Segments.{texts_of}
use Rattle.mlb_reader.proofs.SegmentLemmas.{clean-turn, clean-end}
use Rattle.mlb_reader.proofs.path.clean.Goals as goal

pub loop-segment-preserved : goal.loop-segment-preserved
loop-segment-preserved c =
    let all = YieldsList-from_str_split 47 c.args.path.now (lit< tt) (cc) (cc) (cc) in
    let at = YieldsList-turn all c.loop-segment.yielded _ c.loop-segment.yielded_by _ _ c.in-Some.segment c.in-Some.is c.next.ensures.steps in
    clean-turn c.args.path.now (reverse (texts_of c.loop-segment.kept.items)) (length c.loop-segment.yielded) c.loop-segment.invariant (reverse (texts_of c.keep.new.kept.items)) _ c.in-Some.segment.now at c.in_ok-keep.ensures (length_push c.loop-segment.yielded c.in-Some.segment)

pub returns : goal.returns
returns c =
    let all = YieldsList-from_str_split 47 c.args.path.now (lit< tt) (cc) (cc) (cc) in
    let end = YieldsList-end all c.loop-segment.yielded _ c.loop-segment.yielded_by _ _ c.in-None.is c.next.ensures.steps in
    let kept = c.loop-segment.kept.items in
    let done = clean-end c.args.path.now (reverse (texts_of kept)) (length c.loop-segment.yielded) c.loop-segment.invariant end.1 in
    let is : joined (texts_of c.as_slice.result.now) ≡ clean c.args.path.now = ap (λ v. joined (texts_of v)) c.as_slice.ensures.value ∙ ap joined (sym (reverse-reverse (texts_of kept)) ∙ ap reverse done) in
    subst (λ bytes. IfOk c.join.result (λ cleaned. string_bytes cleaned ≡ bytes)) is c.join.ensures
