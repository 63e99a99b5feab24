use Rattle.std.proofs.Common.{sym, ap, ◌∙◌}
use Rattle.dec_forms.specs.Telling.{with_all}
use Rattle.rec_groups.specs.Heads.{own_entries}
use Rattle.rec_groups.specs.declared.head.Head.{Head}
use Rattle.rec_groups.proofs.Entering.{context_own, heads-all, heads-next}
use Rattle.rec_groups.proofs.enter.enter_heads.Goals as goal

pub loop-i-preserved : goal.loop-i-preserved
loop-i-preserved c =
    heads-next c.args.context.now c.args.heads.now c.loop-i.i c.index-heads-i.result c.loop-i.context c.enter_variables.new.context c.loop-i-test.true c.index-heads-i.is c.loop-i.invariant
    (c.in_ok-enter_variables.ensures ∙ ap (λ l. with_all c.loop-i.context (own_entries l)) (c.deref.ensures.value ∙ ap (λ (h : Head). h.variables.items) (sym c.index-heads-i.is)))

pub returns-clause-entered : goal.returns-clause-entered
returns-clause-entered c = heads-all c.args.context.now c.args.heads.now c.loop-i.i c.loop-i.context c.loop-i-test.false c.loop-i.invariant

pub returns-clause-context : goal.returns-clause-context
returns-clause-context c S i h =
    context_own S c.args.context.now c.loop-i.context c.args.heads.now (heads-all c.args.context.now c.args.heads.now c.loop-i.i c.loop-i.context c.loop-i-test.false c.loop-i.invariant) i h
