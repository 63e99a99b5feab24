use Rattle.std.proofs.Common.{sym, ◌∙◌}
use Rattle.ir_tables.specs.of_ty_core.TypesOf.{head_of}
use Rattle.ir_known.specs.Images.{image_of}
use Rattle.ir_known.proofs.Pairs.{pair-closed, closed-apart, pair-variable, other-length, pair-parts}
use Rattle.ir_known.proofs.image.open_pair.Goals as goal

pub returns-then-parts-others-clause-no : goal.returns-then-parts-others-clause-no
returns-then-parts-others-clause-no c = λ _. other-length c.args.types.now (image_of c.args.types.now c.args.images.now c.args.rest) c.args.pair (head_of c.in-Apply.head.now) (head_of c.in-Apply-view.other.now) c.in-Apply.parts.now
    c.in-Apply-view.others.now c.in-Apply.ensures.0 c.in-Apply-view.ensures.0 c.if-parts-others.true

pub returns-in-Var-clause-opens : goal.returns-in-Var-clause-opens
returns-in-Var-clause-opens c = λ y. pair-variable c.args.types.now (image_of c.args.types.now c.args.images.now c.args.rest) c.args.pair c.in-Var.v c.args.pending.now.items c.in-Var.ensures (c.stands.ensures.0 y)

pub returns-in_ok-push_pairs-in-Apply-view-clause-opens : goal.returns-in_ok-push_pairs-in-Apply-view-clause-opens
returns-in_ok-push_pairs-in-Apply-view-clause-opens c = λ _. pair-parts c.args.types.now (image_of c.args.types.now c.args.images.now c.args.rest) c.args.pair (head_of c.in-Apply.head.now) (head_of c.in-Apply-view.other.now) c.in-Apply.parts.now
    c.in-Apply-view.others.now c.args.pending.now.items c.push_pairs.new.pending.items c.in-Apply.ensures.0 c.in-Apply-view.ensures.0 (c.same_head.ensures.0 c.if-not-same_head.false) c.if-parts-others.false c.in_ok-push_pairs-in-Apply-view.ensures

pub returns-then-top-eq0-clause-opens : goal.returns-then-top-eq0-clause-opens
returns-then-top-eq0-clause-opens c = pair-closed c.args.types.now (image_of c.args.types.now c.args.images.now c.args.rest) c.args.pair c.same_type.result c.args.pending.now.items (sym c.top.ensures ∙ c.if-top-eq0.true) c.same_type.ensures

pub returns-then-top-eq0-clause-no : goal.returns-then-top-eq0-clause-no
returns-then-top-eq0-clause-no c = closed-apart c.args.types.now (image_of c.args.types.now c.args.images.now c.args.rest) c.args.pair c.same_type.result (sym c.top.ensures ∙ c.if-top-eq0.true) c.same_type.ensures
