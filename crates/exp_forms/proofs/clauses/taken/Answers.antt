use Rattle.std.proofs.Common.{◌≡◌, subst}
use Rattle.pat_elab.proofs.of_elab_context.Reading.{context_later}
use Rattle.pat_elab.proofs.of_elab_steps.Changing.{if-ok}
use Rattle.exp_forms.specs.Parts.{AreFields}
use Rattle.exp_forms.specs.Clauses.{fresh_exps, labels_from}
use Rattle.exp_forms.proofs.Clausing.{all-types, all_taken, ends, fields_next, one_taken}
use Rattle.exp_forms.proofs.clauses.taken.Goals as goal

pub loop-i-init : goal.loop-i-init
loop-i-init c = record { context = c.requires; fields = c.no_fields-fields.ensures c.args.state.now c.args.context.now }

pub loop-i-preserved : goal.loop-i-preserved
loop-i-preserved c =
    fields_next c.args.state.now c.loop-i.state c.fresh_used-in-loop-i.new.state c.args.context.now c.args.place c.loop-i.i c.loop-i.fields c.add_field.new.fields c.in_ok-one.one c.loop-i.invariant
    (context_later c.loop-i.state c.fresh_used-in-loop-i.new.state c.args.context.now c.in_ok-one.ensures.grows c.loop-i.invariant.context) c.in_ok-one.ensures c.in_ok-add_field.ensures

pub record-requires-clause-row : goal.record-requires-clause-row
record-requires-clause-row c = all-types c.loop-i.state c.loop-i.fields.row.items c.loop-i.invariant.fields.exps.are

pub returns-then-count-eq1 : goal.returns-then-count-eq1
returns-then-count-eq1 c =
    if-ok c.fresh_used.result (λ r k. λ as_ e. one_taken c.args.state.now c.fresh_used.new.state c.args.context.now c.args.place r c.args.count as_ k c.if-count-eq1.true e) c.fresh_used.ensures

pub returns : goal.returns
returns c =
    let same : c.loop-i.i ≡ c.args.count = ends c.loop-i.i c.args.count c.loop-i.auto.i-end c.loop-i-test.false in
    let fields = subst (λ n. AreFields c.args.state.now c.args.context.now (labels_from 1 n) (fresh_exps c.args.place 1 n) c.loop-i.state c.loop-i.fields) same c.loop-i.invariant.fields in
    if-ok c.record.result (λ r k. λ as_ e.
    all_taken c.args.state.now c.record.new.state c.args.context.now c.args.place r c.args.count as_ c.if-count-eq1.false e
    (k c.args.state.now c.args.place (labels_from 1 c.args.count) (fresh_exps c.args.place 1 c.args.count) fields)) c.record.ensures
