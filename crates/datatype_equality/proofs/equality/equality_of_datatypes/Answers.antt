use Rattle.std.proofs.Common.{◌≤◌, length, sym, ap, ◌∙◌, subst}
use Rattle.datatype_equality.specs.Respects.{Respects, AllBelow}
use Rattle.datatype_equality.proofs.Answering.{enough, answer, answer-length, respects, greatest}
use Rattle.datatype_equality.proofs.equality.equality_of_datatypes.Goals as goal

pub standing-requires : goal.standing-requires
standing-requires c = subst (λ l. c.args.count ≤ length l) (sym c.as_slice.ensures.value) (enough c.args.types.now c.args.first c.args.count c.args.arguments.now c.in_ok-graph.graph c.in_ok-marks.marks.items c.in_ok-graph.ensures c.in_ok-marks.ensures)

pub returns-clause-length : goal.returns-clause-length
returns-clause-length c = ap length (c.in_ok-qs.ensures ∙ ap (answer c.args.count) c.as_slice.ensures.value)
    ∙ answer-length c.args.count c.in_ok-marks.marks.items (enough c.args.types.now c.args.first c.args.count c.args.arguments.now c.in_ok-graph.graph c.in_ok-marks.marks.items c.in_ok-graph.ensures c.in_ok-marks.ensures)

pub returns-clause-respects : goal.returns-clause-respects
returns-clause-respects c = subst (Respects c.args.first c.args.types.now c.args.arguments.now) (sym (c.in_ok-qs.ensures ∙ ap (answer c.args.count) c.as_slice.ensures.value))
    (respects c.args.types.now c.args.first c.args.count c.args.arguments.now c.in_ok-graph.graph c.in_ok-marks.marks.items c.in_ok-graph.ensures c.in_ok-marks.ensures)

pub returns-clause-greatest : goal.returns-clause-greatest
returns-clause-greatest c = λ rs n r. subst (AllBelow rs) (sym (c.in_ok-qs.ensures ∙ ap (answer c.args.count) c.as_slice.ensures.value))
    (greatest c.args.types.now c.args.first c.args.count c.args.arguments.now c.in_ok-graph.graph c.in_ok-marks.marks.items c.in_ok-graph.ensures c.in_ok-marks.ensures rs n r)
