use Rattle.std.proofs.Common.{refl, arith, ◌∙◌}
use Rattle.exp_forms.proofs.Listing.{list_none, list_is, empty-list, full-list, first-removed}
use Rattle.exp_forms.proofs.list.finish_list.Goals as goal

pub returns-then-count-eq0 : goal.returns-then-count-eq0
returns-then-count-eq0 c S L T C place es h k =
    list_none S L T C place es c.args.listed c.args.parts.items _
    (empty-list c.len-count.result c.args.parts.items c.if-count-eq0.true (omega (arith, c.len-count.ensures, c.args.parts.ok.0))) c.in_ok-exp.ensures refl h k

pub returns : goal.returns
returns c S L T C place es h k =
    list_is S L T C place es c.args.listed c.args.parts.items c.in_ok-end.end c.remove.result c.remove.new.self c.in_ok-first.first _
    (full-list c.len-count.result c.args.parts.items c.if-count-eq0.false (omega (arith, c.len-count.ensures, c.args.parts.ok.0))) c.in_ok-end.ensures.join c.in_ok-end.ensures.operator
    c.in_ok-end.ensures.end
    (first-removed c.in_ok-end.end c.remove.result c.push.new.self.items c.args.parts.items c.remove.new.self.items c.in_ok-push.ensures.items c.remove.ensures.value c.remove.ensures.items)
    (c.in_ok-first.ensures ∙ c.operand-first.ensures) refl refl h k
