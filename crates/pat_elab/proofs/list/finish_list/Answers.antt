use Rattle.std.proofs.Common.{refl, arith}
use Rattle.pat_elab.proofs.ListsDo.{list_none, list_is, empty-list, full-list, first-removed}
use Rattle.pat_elab.proofs.list.finish_list.Goals as goal

pub returns-then-count-eq0 : goal.returns-then-count-eq0
returns-then-count-eq0 c S L T C place before after as_ h k =
    list_none S L T C place before after as_ c.args.listed c.args.parts.items _
    (empty-list c.len-count.result c.args.parts.items c.if-count-eq0.true (omega (arith, c.len-count.ensures, c.args.parts.ok.0))) c.nil-end.ensures.pat c.nil-end.ensures.ty h k

pub returns : goal.returns
returns c S L T C place before after as_ h k =
    list_is S L T C place before after as_ c.args.listed c.args.parts.items _ (record { head = c.args.listed.head; pair = c.args.listed.pair; pat = c.nil-end.result.pat }) c.remove-first.result c.remove-first.new.self
    c.in_ok-first.first (full-list c.len-count.result c.args.parts.items c.if-count-eq0.false (omega (arith, c.len-count.ensures, c.args.parts.ok.0))) refl refl c.nil-end.ensures.pat
    (first-removed _ c.remove-first.result c.push.new.self.items c.args.parts.items c.remove-first.new.self.items c.in_ok-push.ensures.items c.remove-first.ensures.value c.remove-first.ensures.items)
    c.in_ok-first.ensures refl refl h k
