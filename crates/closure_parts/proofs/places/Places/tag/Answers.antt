use Rattle.std.proofs.Common.{arith}
use Rattle.closure_parts.proofs.Finding.{tag-other, tag-more}
use Rattle.closure_parts.proofs.places.Places.tag.Goals as goal

pub returns-then-ty-ne-BOOL : goal.returns-then-ty-ne-BOOL
returns-then-ty-ne-BOOL c = λ types h. tag-other types c.args.ty c.args.constructor c.place-place.result (c.place-place.ensures types h) c.if-ty-ne-BOOL.true

pub returns-in-Some : goal.returns-in-Some
returns-in-Some c = λ types h.
    tag-more types c.args.ty c.args.constructor c.place-place.result (c.place-place.ensures types h) c.in-Some.tag (omega arith) c.if-constructor-eq-FALSE.false c.if-constructor-eq-TRUE.false (omega arith)
