use Rattle.prog_binders.specs.Adding.{pat_field_times, pat_part_times}
use Rattle.std.proofs.Common.{◌+◌, ap, ◌∙◌}
use Rattle.std.specs.Prelude.{sum_by}
use Rattle.ir_poly.specs.ProgOnce.{pat_times}
use Rattle.prog_tree.specs.TreeOf.{pat_of}
use Rattle.prog_binders.proofs.Counting.{more-is, then, as-sum, as-list, as-at, pushed, variable-pat, as-pat, before-pat, record-pat, chain-pat}
use Rattle.prog_binders.proofs.pats.+pats.Goals as goal

pub push_fields-loop-i-preserved : goal.push_fields-loop-i-preserved
push_fields-loop-i-preserved t c = more-is pat_field_times c.args.fields.now c.loop-i.i c.index-fields-i.result _ _ _ c.loop-i-test.true c.index-fields-i.is c.loop-i.invariant c.in_ok-push_pat.ensures

pub push_parts-loop-i-preserved : goal.push_parts-loop-i-preserved
push_parts-loop-i-preserved t c = more-is pat_part_times c.args.parts.now c.loop-i.i c.index-parts-i.result _ _ _ c.loop-i-test.true c.index-parts-i.is c.loop-i.invariant c.in_ok-push_pat.ensures

pub push_pat-returns-in_ok-push-in-Variable : goal.push_pat-returns-in_ok-push-in-Variable
push_pat-returns-in_ok-push-in-Variable t c = as-sum (λ R h. h c.in-Variable.variable) (λ R h. pat_times h (pat_of R c.args.pat.now)) _ _ (λ R h. ap (λ p. pat_times h (pat_of R p)) c.in-Variable.is ∙ variable-pat R h c.in-Variable.variable)
    (pushed c.in-Variable.variable _ _ c.in_ok-push-in-Variable.ensures.items)

pub push_pat-returns-in_ok-push_pat-in-Before : goal.push_pat-returns-in_ok-push_pat-in-Before
push_pat-returns-in_ok-push_pat-in-Before t c = as-sum (λ R h. pat_times h (pat_of R c.in-Before.part.value)) (λ R h. pat_times h (pat_of R c.args.pat.now)) _ _ (λ R h. ap (λ p. pat_times h (pat_of R p)) c.in-Before.is ∙ before-pat R h c.in-Before.field-0 c.in-Before.field-1 c.in-Before.part)
    (as-at (λ R h p. pat_times h (pat_of R p)) _ _ _ _ c.deref.ensures c.in_ok-push_pat-in-Before.ensures)

pub push_pat-returns-in_ok-push_fields-in-Record : goal.push_pat-returns-in_ok-push_fields-in-Record
push_pat-returns-in_ok-push_fields-in-Record t c = as-sum (λ R h. sum_by (pat_field_times R h) c.in-Record.fields.items) (λ R h. pat_times h (pat_of R c.args.pat.now)) _ _ (λ R h. ap (λ p. pat_times h (pat_of R p)) c.in-Record.is ∙ record-pat R h c.in-Record.field-0 c.in-Record.fields)
    (as-list pat_field_times _ _ _ _ c.deref-in-Record.ensures.value c.in_ok-push_fields-in-Record.ensures)

pub push_pat-returns-in_ok-push_pat-in-As : goal.push_pat-returns-in_ok-push_pat-in-As
push_pat-returns-in_ok-push_pat-in-As t c = as-sum (λ R h. h c.in-As.variable + pat_times h (pat_of R c.in-As.part.value)) (λ R h. pat_times h (pat_of R c.args.pat.now)) _ _ (λ R h. ap (λ p. pat_times h (pat_of R p)) c.in-As.is ∙ as-pat R h c.in-As.variable c.in-As.part)
    (then (λ R h. h c.in-As.variable) (λ R h. pat_times h (pat_of R c.in-As.part.value)) _ _ _ (pushed c.in-As.variable _ _ c.in_ok-push-in-As.ensures.items) (as-at (λ R h p. pat_times h (pat_of R p)) _ _ _ _ c.deref-in-As.ensures c.in_ok-push_pat-in-As.ensures))

pub push_pat-returns-in_ok-push_parts-in-Chain : goal.push_pat-returns-in_ok-push_parts-in-Chain
push_pat-returns-in_ok-push_parts-in-Chain t c = as-sum (λ R h. pat_times h (pat_of R c.in-Chain.first.value) + sum_by (pat_part_times R h) c.in-Chain.parts.items) (λ R h. pat_times h (pat_of R c.args.pat.now)) _ _ (λ R h. ap (λ p. pat_times h (pat_of R p)) c.in-Chain.is ∙ chain-pat R h c.in-Chain.field-0 c.in-Chain.first c.in-Chain.parts)
    (then (λ R h. pat_times h (pat_of R c.in-Chain.first.value)) (λ R h. sum_by (pat_part_times R h) c.in-Chain.parts.items) _ _ _ (as-at (λ R h p. pat_times h (pat_of R p)) _ _ _ _ c.deref-in-Chain.ensures c.in_ok-push_pat-in-Chain.ensures) (as-list pat_part_times _ _ _ _ c.deref-in-Chain-2.ensures.value c.in_ok-push_parts-in-Chain.ensures))
