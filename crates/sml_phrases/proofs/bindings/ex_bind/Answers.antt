use Rattle.std.proofs.lemmas.Option.{MatchOption-at_some}
use Rattle.phrase_base.specs.Left.{left}
use Rattle.sml_phrases.proofs.BindParts.{ex-same, ex-new}
use Rattle.sml_phrases.proofs.bindings.ex_bind.Goals as goal

pub returns-in-Some-2 : goal.returns-in-Some-2
returns-in-Some-2 c =
    let h = ex-same c.args.source.now c.args.n c.args.fix.now (left c.args.source.now c.args.tokens.now) (left c.args.source.now c.in-Some.after.now) c.vid_place-place.result c.in-Some.vid (left c.args.source.now c.in-Some-after_word.named.now) c.vid_place.result c.in-Some-2.long c.in-Some-2.rest.now
    c.in-Some.ensures c.in-Some-after_word.ensures (MatchOption-at_some _ _ _ c.in-Some-2.is c.in_ok-long.ensures) c.vid_place-place.ensures c.vid_place.ensures in
    record { gives = record { got = h.got; is = h.is; same = h.same } }

pub returns : goal.returns
returns c =
    let g = c.in_ok-of_ty.ensures.gives in
    let h = ex-new c.args.source.now c.args.n c.args.fix.now (left c.args.source.now c.args.tokens.now) (left c.args.source.now c.in-Some.after.now) c.vid_place-place.result c.in-Some.vid c.in_ok-of_ty.field-0.it c.in_ok-of_ty.field-0.depth c.in_ok-of_ty.field-0.rest.now
    c.in-Some.ensures c.in_default-after_word.ensures c.vid_place-place.ensures g.got g.is g.same in
    record { gives = record { got = h.got; is = h.is; same = h.same } }
