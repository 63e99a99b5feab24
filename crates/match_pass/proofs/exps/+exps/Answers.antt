use Rattle.std.proofs.Common.{subst, [], length, refl, sym, ap, ◌∙◌, arith}
use Rattle.std.proofs.lemmas.Bool.{eqb-false}
use Rattle.std.proofs.lemmas.Result.{IfOk-weaker}
use Rattle.ir_poly.specs.Prog.{type_of}
use Rattle.match_compile.specs.Compile.{way}
use Rattle.general_bindings.specs.of_pattern_tests.Spots.{names_onto}
use Rattle.general_bindings.specs.of_exp_steps.Made.{atomic, used, recorded, raised, counted}
use Rattle.general_bindings.specs.of_exp_steps.Ways.{way_of}
use Rattle.general_bindings.proofs.of_exp_steps.Heads.{no-elements, atom-alone, used-alone, let-alone, case-alone, test-alone, handle-alone, raise-alone, fn-alone, apply-alone, apply-many, infix-alone, infix-many, sequence-alone, sequence-many}
use Rattle.general_bindings.proofs.of_exp_steps.Counting.{makes-as, counted-makes, counted-tuple, tuple-as}
use Rattle.general_bindings.proofs.of_exp_steps.Fields.{tuple-of-all, all-none, all-made-as}
use Rattle.general_bindings.specs.of_exp_blocks.Giving.{otherwise_of}
use Rattle.general_bindings.proofs.of_exp_blocks.Growing.{grows-equal, ends-more, ends-as}
use Rattle.match_pass.specs.Reading.{expression, fields_read, applied_to, left_chain, right_chain, rules_read, case_read, sequence_read, chain_read, chain_exp_read, function_read, let_read, handle_read, decs_read, named_read, by_rules_read}
use Rattle.match_pass.proofs.Nodes.{atom-node, use-node, record-node, let-node, apply-node, left-node, right-node, case-node, sequence-node, test-node, handle-node, raise-node, fn-node, weight-node, named-node, by_rules-node}
use Rattle.match_pass.proofs.Making.{made-as, fn-makes, function-as, one-rule, direct-case, direct-fits}
use Rattle.match_pass.proofs.Loops.{fields-step, fields-end, turn-step, turn-end, linked-none, linked-step, linked-end}
use Rattle.match_pass.proofs.Tuples.{alone-tuple, inner-tuple}
use Rattle.match_pass.proofs.Joins.{left-opened, left-closed}
use Rattle.match_pass.proofs.Rights.{left-start, left-all, left-end, left-never}
use Rattle.general_bindings.proofs.of_pattern_tests.Chains.{no-items}
use Rattle.match_pass.proofs.Applying.{apply-none, apply-first, apply-step, apply-end}
use Rattle.match_pass.proofs.Regions.{names-back}
use Rattle.match_pass.proofs.Whole.{scoped-makes, let-makes, chain-ends, chain-makes, handle-makes}
use Rattle.match_pass.proofs.Ruling.{attempts-none, attempt-added, attempts-step, attempts-end, rules-make}
use Rattle.match_pass.proofs.Functions.{named-gives, ruled-gives, tested-makes, direct-makes}
use Rattle.match_pass.proofs.Naming.{declares-none, decs-step, decs-end, dec-exception, dec-counted, dec-val, val-declares}
use Rattle.match_pass.proofs.Grouping.{groups-none, groups-step, member-made, groups-end, group-next, group-keeps, group-puts}
use Rattle.match_pass.proofs.Generals.{shape-generalises, binds-none, binds-step, binds-end, plain-binds, general-binds}
use Rattle.match_pass.specs.Apart.{Begins, going}
use Rattle.match_pass.proofs.Parts.{parts-read, first-same, first-none, first-some, waiting-first, waiting-step, waiting-never, waiting-end}
use Rattle.match_pass.proofs.exps.+exps.Goals as goal

pub push_exp-returns-in-Atom : goal.push_exp-returns-in-Atom
push_exp-returns-in-Atom t c = made-as _ _ _ _ (atomic c.in-Atom.atom c.in-Atom.u) (expression c.args.exp.now) c.push_atom.result (λ R. atom-node R c.args.exp.now c.in-Atom.atom c.in-Atom.u c.in-Atom.is) c.push_atom.ensures

pub push_exp-returns-in-Use : goal.push_exp-returns-in-Use
push_exp-returns-in-Use t c =
    made-as _ _ _ _ (used c.in-Use.what c.deref.result.now c.in-Use.u) (expression c.args.exp.now) c.push_used.result
    (λ R. use-node R c.args.exp.now c.in-Use.what c.in-Use.types c.in-Use.u c.deref.result.now c.in-Use.is c.deref.ensures.value) c.push_used.ensures

pub push_exp-returns-in-Record : goal.push_exp-returns-in-Record
push_exp-returns-in-Record t c =
    made-as _ _ _ _ (recorded c.in-Record.u (fields_read c.deref-in-Record.result.now)) (expression c.args.exp.now) c.push_recorded.result
    (λ R. record-node R c.args.exp.now c.in-Record.u c.in-Record.fields c.deref-in-Record.result.now c.in-Record.is c.deref-in-Record.ensures.value) c.push_recorded.ensures

pub push_exp-returns-in_ok-value-in-Case : goal.push_exp-returns-in_ok-value-in-Case
push_exp-returns-in_ok-value-in-Case t c =
    let e = c.deref-in-Case.result.now in
    let rs = c.deref-in-Case-3.result.now in
    IfOk-weaker c.push_case.result _ _
    (λ a p. makes-as (case_read c.in-Case.field-0 c.in-Case.u (expression e) rs) (expression c.args.exp.now)
    (λ R. case-node R c.args.exp.now c.in-Case.field-0 c.in-Case.u c.in-Case.scrutinee c.in-Case.rules e rs c.in-Case.is c.deref-in-Case.ensures c.deref-in-Case-3.ensures.value)
    (p c.in-Case.field-0 _ _ (expression e) (λ R. c.type_of.ensures R ∙ ap (λ x. type_of (expression x R)) (c.deref-in-Case-2.ensures ∙ sym c.deref-in-Case.ensures)) c.in_ok-value-in-Case.ensures)) c.push_case.ensures

pub push_exp-returns-in_ok-push_dropped-in-Sequence : goal.push_exp-returns-in_ok-push_dropped-in-Sequence
push_exp-returns-in_ok-push_dropped-in-Sequence t c =
    let ds = c.deref-in-Sequence.result.now in
    let e = c.deref-in-Sequence-2.result.now in
    IfOk-weaker c.push_exp-in-Sequence.result _ _
    (λ a p. makes-as (sequence_read c.in-Sequence.field-0 c.in-Sequence.field-1 ds (expression e)) (expression c.args.exp.now)
    (λ R. sequence-node R c.args.exp.now c.in-Sequence.field-0 c.in-Sequence.field-1 c.in-Sequence.dropped c.in-Sequence.last ds e c.in-Sequence.is c.deref-in-Sequence.ensures.value c.deref-in-Sequence-2.ensures)
    (c.in_ok-push_dropped-in-Sequence.ensures c.in-Sequence.field-0 c.in-Sequence.field-1 _ _ e _ p)) c.push_exp-in-Sequence.ensures

pub push_exp-returns-in_ok-packet-in-Raise : goal.push_exp-returns-in_ok-packet-in-Raise
push_exp-returns-in_ok-packet-in-Raise t c =
    let e = c.deref-in-Raise.result.now in
    IfOk-weaker c.push_raise.result _ _
    (λ a p. makes-as (raised c.in-Raise.u (expression e)) (expression c.args.exp.now) (λ R. raise-node R c.args.exp.now c.in-Raise.u c.in-Raise.packet e c.in-Raise.is c.deref-in-Raise.ensures)
    (p _ _ (expression e) c.in_ok-packet-in-Raise.ensures)) c.push_raise.ensures

pub push_exp-returns-in_ok-made-in-Fn : goal.push_exp-returns-in_ok-made-in-Fn
push_exp-returns-in_ok-made-in-Fn t c =
    IfOk-weaker c.push_lambda.result _ _
    (λ a p. makes-as _ (expression c.args.exp.now) (λ R. fn-node R c.args.exp.now c.in-Fn.u c.in-Fn.function c.in-Fn.is) (fn-makes c.in-Fn.u (function_read c.in-Fn.function) c.in_ok-made-in-Fn.made c.in_ok-made-in-Fn.ensures p)) c.push_lambda.ensures

pub push_exp-returns-in_ok-push_counted-in-Counted : goal.push_exp-returns-in_ok-push_counted-in-Counted
push_exp-returns-in_ok-push_counted-in-Counted t c =
    let e = c.deref-in-Counted.result.now in
    IfOk-weaker c.push_exp-in-Counted.result _ _
    (λ a p. makes-as (counted c.in-Counted.count c.in-Counted.field-1 (expression e)) (expression c.args.exp.now)
    (λ R. weight-node R c.args.exp.now c.in-Counted.count c.in-Counted.field-1 c.in-Counted.inner e c.in-Counted.is c.deref-in-Counted.ensures)
    (counted-makes c.in-Counted.count c.in-Counted.field-1 (c.in_ok-push_counted-in-Counted.ensures c.args.work.now) p)) c.push_exp-in-Counted.ensures

pub push_recorded-returns : goal.push_recorded-returns
push_recorded-returns t c = c.in_ok-a.ensures _ _ (fields_read c.args.fields.now) c.in_ok-made.ensures

pub push_let-returns : goal.push_let-returns
push_let-returns t c =
    let ds = c.deref.result.now in
    let e = c.deref-2.result.now in
    let d = c.in_ok-push_decs.ensures in
    let m = c.in_ok-value.ensures in
    let w = c.push_exp.new.work in
    makes-as (let_read c.in-Let.u ds (expression e)) (expression c.args.exp.now)
    (λ R. let-node R c.args.exp.now c.in-Let.u c.in-Let.decs c.in-Let.body ds e c.in-Let.is c.deref.ensures.value c.deref-2.ensures)
    (let-makes c.in-Let.u (decs_read ds) (expression e) c.new-inner.ensures.items
    (scoped-makes (decs_read ds) (expression e) d m (grows-equal w _ refl refl refl refl refl refl) refl refl
    (names-back _ w.names _ c.len-bound.result c.len-bound.ensures (ends-as _ _ w.names m.keeps.names d.ends) c.in_ok-restore.ensures)) c.in_ok-a.ensures)

pub push_application-returns-then-is_empty : goal.push_application-returns-then-is_empty
push_application-returns-then-is_empty t c =
    let f = c.deref-function.result.now in
    let as_ = c.deref-arguments.result.now in
    makes-as (applied_to c.in-Apply.place (expression f) as_) (expression c.args.exp.now)
    (λ R. apply-node R c.args.exp.now c.in-Apply.place c.in-Apply.function c.in-Apply.arguments f as_ c.in-Apply.is c.deref-function.ensures c.deref-arguments.ensures.value)
    (apply-none c.in-Apply.place f as_ (no-elements as_ (sym c.is_empty.ensures ∙ c.if-is_empty.true)) c.in_ok-a.ensures)

pub push_application-returns : goal.push_application-returns
push_application-returns t c =
    let f = c.deref-function.result.now in
    let as_ = c.deref-arguments.result.now in
    let some = eqb-false (length as_) 0 (sym c.is_empty.ensures ∙ c.if-is_empty.false) in
    makes-as (applied_to c.in-Apply.place (expression f) as_) (expression c.args.exp.now)
    (λ R. apply-node R c.args.exp.now c.in-Apply.place c.in-Apply.function c.in-Apply.arguments f as_ c.in-Apply.is c.deref-function.ensures c.deref-arguments.ensures.value)
    (c.in_ok-a-2.ensures _ _ f
    (λ R a is. ap (λ x. way (expression f R) (expression x.1 R)) (first-same as_ a c.index-arguments-0.result (omega (arith, some)) is c.index-arguments-0.is ∙ c.index-arguments-0.is) ∙ c.application_way-way.ensures R ∙ c.in_ok-opening.ensures.goes R)
    c.in_ok-opening.ensures.begins)

pub push_infix-returns-in_ok-a-in-Left : goal.push_infix-returns-in_ok-a-in-Left
push_infix-returns-in_ok-a-in-Left t c =
    let js = c.deref-joins.result.now in
    let e = c.deref.result.now in
    makes-as (left_chain (expression e) js) (expression c.args.exp.now)
    (λ R. left-node R c.args.exp.now c.in-Infix.side c.in-Infix.first c.in-Infix.joins e js c.in-Infix.is c.in-Left.is c.deref.ensures c.deref-joins.ensures.value)
    (c.in_ok-a-in-Left.ensures _ _ (expression e) (record { work = _; steps = _; waits = c.in_ok-push_operators-in-Left.ensures c.new-openings.ensures.items; made = c.in_ok-value-in-Left.ensures }))

pub push_infix-returns-in_ok-a-in-Right : goal.push_infix-returns-in_ok-a-in-Right
push_infix-returns-in_ok-a-in-Right t c =
    let js = c.deref-joins.result.now in
    let e = c.deref-in-Right.result.now in
    makes-as (right_chain (expression e) js) (expression c.args.exp.now)
    (λ R. right-node R c.args.exp.now c.in-Infix.side c.in-Infix.first c.in-Infix.joins e js c.in-Infix.is c.in-Right.is c.deref-in-Right.ensures c.deref-joins.ensures.value)
    (c.in_ok-a-in-Right.ensures _ _ (right_chain (expression e) js) (c.in_ok-last-in-Right.ensures _ _ _ _ e c.new-openings-in-Right.ensures.items c.in_ok-opening-in-Right.ensures c.in_ok-value-in-Right.ensures))

pub push_chain-returns : goal.push_chain-returns
push_chain-returns t c =
    let es = c.deref.result.now in
    let e = c.deref-2.result.now in
    makes-as (chain_exp_read c.in-Test.goes_on c.in-Test.u es e) (expression c.args.exp.now)
    (λ R. test-node R c.args.exp.now c.in-Test.goes_on c.in-Test.u c.in-Test.operands c.in-Test.last es e c.in-Test.is c.deref.ensures.value c.deref-2.ensures)
    (chain-makes c.in-Test.goes_on c.in-Test.u (chain_read es e) c.new-inner.ensures.items (chain-ends c.in-Test.goes_on es e (c.in_ok-push_links.ensures e) c.in_ok-value.ensures) c.in_ok-a.ensures)

pub push_handling-returns : goal.push_handling-returns
push_handling-returns t c =
    let e = c.deref.result.now in
    let rs = c.deref-2.result.now in
    let f = c.in_ok-packet.ensures in
    makes-as (handle_read c.in-Handle.u (expression e) rs) (expression c.args.exp.now)
    (λ R. handle-node R c.args.exp.now c.in-Handle.u c.in-Handle.body c.in-Handle.rules e rs c.in-Handle.is c.deref.ensures c.deref-2.ensures.value)
    (handle-makes c.in-Handle.u (expression e) (rules_read rs) c.in_ok-handler.handler c.new-inner.ensures.items c.in_ok-value.ensures f.keeps f.is f.next c.in_ok-handler.ensures c.in_ok-a.ensures)

pub push_fields-loop-i-init : goal.push_fields-loop-i-init
push_fields-loop-i-init t c = all-made-as [] _ c.new-made.ensures.items (all-none _ _)

pub push_fields-loop-i-preserved : goal.push_fields-loop-i-preserved
push_fields-loop-i-preserved t c =
    fields-step c.args.fields.now c.loop-i.i c.index-fields-i.result c.loop-i.made.items _ c.loop-i-test.true c.index-fields-i.is c.loop-i.invariant c.in_ok-atom.ensures c.in_ok-push.ensures.items

pub push_fields-returns : goal.push_fields-returns
push_fields-returns t c = fields-end c.args.fields.now c.loop-i.i c.loop-i.made.items c.loop-i-test.false c.loop-i.invariant

pub push_tuple-returns-in-Record : goal.push_tuple-returns-in-Record
push_tuple-returns-in-Record t c =
    IfOk-weaker c.push_fields.result _ _
    (λ made p. tuple-as (recorded c.in-Record.field-0 (fields_read c.deref.result.now)) (expression c.args.tuple.now) (λ R. record-node R c.args.tuple.now c.in-Record.field-0 c.in-Record.fields c.deref.result.now c.in-Record.is c.deref.ensures.value)
    (tuple-of-all c.in-Record.field-0 p)) c.push_fields.ensures

pub push_tuple-returns-in_ok-push_counted-in-Counted : goal.push_tuple-returns-in_ok-push_counted-in-Counted
push_tuple-returns-in_ok-push_counted-in-Counted t c =
    IfOk-weaker c.push_tuple.result _ _
    (λ made p. tuple-as (counted c.in-Counted.count c.in-Counted.field-1 (expression c.deref-in-Counted.result.now)) (expression c.args.tuple.now)
    (λ R. weight-node R c.args.tuple.now c.in-Counted.count c.in-Counted.field-1 c.in-Counted.inner c.deref-in-Counted.result.now c.in-Counted.is c.deref-in-Counted.ensures)
    (counted-tuple c.in-Counted.count c.in-Counted.field-1 (c.in_ok-push_counted-in-Counted.ensures c.args.work.now) p)) c.push_tuple.ensures

pub push_tuple-returns-in-Apply : goal.push_tuple-returns-in-Apply
push_tuple-returns-in-Apply t c =
    IfOk-weaker c.push_tuple-in-Apply.result _ _
    (λ made p. inner-tuple c.args.tuple.now _ c.deref-in-Apply.result.now c.in-Apply.inner.value c.in-Apply.is (λ R. apply-alone R c.in-Apply.field-0 c.in-Apply.inner c.in-Apply.rest (sym c.if-is_empty.ensures)) c.deref-in-Apply.ensures p)
    c.push_tuple-in-Apply.ensures

pub push_tuple-returns-in-Apply-2 : goal.push_tuple-returns-in-Apply-2
push_tuple-returns-in-Apply-2 t c =
    alone-tuple c.args.work.now _ _ c.args.tuple.now _ c.new.ensures.items c.in-Apply.is (λ R. (apply-many R c.in-Apply.field-0 c.in-Apply.inner c.in-Apply.rest (sym c.if-is_empty.ensures)).alone)

pub push_tuple-returns-in-Infix : goal.push_tuple-returns-in-Infix
push_tuple-returns-in-Infix t c =
    IfOk-weaker c.push_tuple-in-Infix.result _ _
    (λ made p. inner-tuple c.args.tuple.now _ c.deref-in-Infix.result.now c.in-Infix.inner.value c.in-Infix.is (λ R. infix-alone R c.in-Infix.field-0 c.in-Infix.inner c.in-Infix.rest (sym c.if-is_empty-2.ensures)) c.deref-in-Infix.ensures p)
    c.push_tuple-in-Infix.ensures

pub push_tuple-returns-in-Infix-2 : goal.push_tuple-returns-in-Infix-2
push_tuple-returns-in-Infix-2 t c =
    alone-tuple c.args.work.now _ _ c.args.tuple.now _ c.new-in-Infix-2.ensures.items c.in-Infix.is (λ R. (infix-many R c.in-Infix.field-0 c.in-Infix.inner c.in-Infix.rest (sym c.if-is_empty-2.ensures)).alone)

pub push_tuple-returns-in-Sequence : goal.push_tuple-returns-in-Sequence
push_tuple-returns-in-Sequence t c =
    IfOk-weaker c.push_tuple-in-Sequence.result _ _
    (λ made p. inner-tuple c.args.tuple.now _ c.deref-in-Sequence.result.now c.in-Sequence.inner.value c.in-Sequence.is (λ R. sequence-alone R c.in-Sequence.field-0 c.in-Sequence.field-1 c.in-Sequence.dropped c.in-Sequence.inner (sym c.if-is_empty-3.ensures)) c.deref-in-Sequence.ensures p)
    c.push_tuple-in-Sequence.ensures

pub push_tuple-returns-in-Sequence-2 : goal.push_tuple-returns-in-Sequence-2
push_tuple-returns-in-Sequence-2 t c =
    alone-tuple c.args.work.now _ _ c.args.tuple.now _ c.new-in-Sequence-2.ensures.items c.in-Sequence.is (λ R. (sequence-many R c.in-Sequence.field-0 c.in-Sequence.field-1 c.in-Sequence.dropped c.in-Sequence.inner (sym c.if-is_empty-3.ensures)).alone)

pub push_tuple-returns-in-Atom : goal.push_tuple-returns-in-Atom
push_tuple-returns-in-Atom t c = alone-tuple c.args.work.now _ _ c.args.tuple.now _ c.new-in-Atom.ensures.items c.in-Atom.is (λ R. atom-alone R c.in-Atom.field-0 c.in-Atom.field-1)

pub push_tuple-returns-in-Use : goal.push_tuple-returns-in-Use
push_tuple-returns-in-Use t c = alone-tuple c.args.work.now _ _ c.args.tuple.now _ c.new-in-Use.ensures.items c.in-Use.is (λ R. used-alone R c.in-Use.field-0 c.in-Use.field-1 c.in-Use.field-2)

pub push_tuple-returns-in-Let : goal.push_tuple-returns-in-Let
push_tuple-returns-in-Let t c = alone-tuple c.args.work.now _ _ c.args.tuple.now _ c.new-in-Let.ensures.items c.in-Let.is (λ R. let-alone R c.in-Let.field-0 c.in-Let.field-1 c.in-Let.field-2)

pub push_tuple-returns-in-Case : goal.push_tuple-returns-in-Case
push_tuple-returns-in-Case t c = alone-tuple c.args.work.now _ _ c.args.tuple.now _ c.new-in-Case.ensures.items c.in-Case.is (λ R. case-alone R c.in-Case.field-0 c.in-Case.field-1 c.in-Case.field-2 c.in-Case.field-3)

pub push_tuple-returns-in-Test : goal.push_tuple-returns-in-Test
push_tuple-returns-in-Test t c = alone-tuple c.args.work.now _ _ c.args.tuple.now _ c.new-in-Test.ensures.items c.in-Test.is (λ R. test-alone R c.in-Test.field-0 c.in-Test.field-1 c.in-Test.field-2 c.in-Test.field-3)

pub push_tuple-returns-in-Handle : goal.push_tuple-returns-in-Handle
push_tuple-returns-in-Handle t c = alone-tuple c.args.work.now _ _ c.args.tuple.now _ c.new-in-Handle.ensures.items c.in-Handle.is (λ R. handle-alone R c.in-Handle.field-0 c.in-Handle.field-1 c.in-Handle.field-2)

pub push_tuple-returns-in-Raise : goal.push_tuple-returns-in-Raise
push_tuple-returns-in-Raise t c = alone-tuple c.args.work.now _ _ c.args.tuple.now _ c.new-in-Raise.ensures.items c.in-Raise.is (λ R. raise-alone R c.in-Raise.field-0 c.in-Raise.field-1)

pub push_tuple-returns-in-Fn : goal.push_tuple-returns-in-Fn
push_tuple-returns-in-Fn t c = alone-tuple c.args.work.now _ _ c.args.tuple.now _ c.new-in-Fn.ensures.items c.in-Fn.is (λ R. fn-alone R c.in-Fn.field-0 c.in-Fn.field-1)

pub push_opening-returns-in_ok-function-in-Call : goal.push_opening-returns-in_ok-function-in-Call
push_opening-returns-in_ok-function-in-Call t c = record { goes = λ R u d e. c.pair_way.ensures R u d e ∙ ap (λ w. way_of w R) c.in-Call.is; makes = c.in_ok-function-in-Call.ensures }

pub push_opening-returns-in_ok-name-in-Building : goal.push_opening-returns-in_ok-name-in-Building
push_opening-returns-in_ok-name-in-Building t c = record { goes = λ R u d e. c.pair_way.ensures R u d e ∙ ap (λ w. way_of w R) c.in-Building.is; begun = c.in_ok-name-in-Building.ensures }

pub push_opening-returns-in_ok-push_weights-in-Performing : goal.push_opening-returns-in_ok-push_weights-in-Performing
push_opening-returns-in_ok-push_weights-in-Performing t c = record { goes = λ R u d e. c.pair_way.ensures R u d e ∙ ap (λ w. way_of w R) c.in-Performing.is; weighs = c.in_ok-push_weights-in-Performing.ensures _ }

pub push_operators-loop-left-init : goal.push_operators-loop-left-init
push_operators-loop-left-init t c = record { within = omega arith; open_so_far = λ none. left-start _ _ c.args.joins.now (length c.args.joins.now) _ refl none }

pub push_operators-loop-left-preserved : goal.push_operators-loop-left-preserved
push_operators-loop-left-preserved t c = record {
  within = omega (arith, c.loop-left.invariant.within);
  open_so_far = λ none.
      left-opened c.args.joins.now c.loop-left.left _ c.index-joins-left.result c.loop-left.openings.items _ c.in_ok-opening.opening (omega arith) c.loop-left.invariant.within c.index-joins-left.is c.in_ok-push.ensures.items
      (c.loop-left.invariant.open_so_far none) c.in_ok-opening.ensures;
}

pub push_operators-returns : goal.push_operators-returns
push_operators-returns t c = λ none. left-all c.args.joins.now c.loop-left.left c.loop-left.openings.items (omega arith) (c.loop-left.invariant.open_so_far none)

pub push_operands-loop-i-init : goal.push_operands-loop-i-init
push_operands-loop-i-init t c = λ start before e h. h

pub push_operands-loop-i-preserved : goal.push_operands-loop-i-preserved
push_operands-loop-i-preserved t c = λ start before e h.
    left-closed e c.args.joins.now c.loop-i.i c.index-joins-i.result c.loop-i.openings.items _ c.in-Some.opening _ c.loop-i-test.true c.index-joins-i.is c.in-Some.ensures.items (c.loop-i.invariant start before e h) c.in_ok-right.ensures
    c.in_ok-value.ensures

pub push_operands-returns-in_default : goal.push_operands-returns-in_default
push_operands-returns-in_default t c = λ start before e h.
    left-never e c.args.joins.now c.loop-i.i c.index-joins-i.result c.loop-i.openings.items c.loop-i-test.true c.index-joins-i.is
    (no-items c.loop-i.openings.items (omega (arith, c.loop-i.openings.ok.0, c.in_default.ensures.cases.0))) (c.loop-i.invariant start before e h)

pub push_operands-returns : goal.push_operands-returns
push_operands-returns t c = λ start before e h. left-end e c.args.joins.now c.loop-i.i _ c.loop-i-test.false (c.loop-i.invariant start before e h)

pub push_waiting-loop-i-init : goal.push_waiting-loop-i-init
push_waiting-loop-i-init t c =
    λ w v ss us e none first made. waiting-first c.args.joins.now e c.args.openings.now.items none first made

pub push_waiting-loop-i-preserved : goal.push_waiting-loop-i-preserved
push_waiting-loop-i-preserved t c =
    λ w v ss us e none first made.
    waiting-step _ c.args.joins.now c.loop-i.i c.index-joins-i.result c.in-Some.opening c.loop-i.value c.loop-i.openings.items _ c.loop-i-test.true c.index-joins-i.is c.in_ok-push.ensures.items c.in-Some.is
    (c.loop-i.invariant w v ss us e none first made) c.in_ok-waiting.ensures c.in_ok-value.ensures

pub push_waiting-returns : goal.push_waiting-returns
push_waiting-returns t c =
    λ w v ss us e none first made. waiting-end _ c.args.joins.now c.loop-i.i _ c.loop-i-test.false (c.loop-i.invariant w v ss us e none first made)

pub push_case-returns-then-is_direct : goal.push_case-returns-then-is_direct
push_case-returns-then-is_direct t c =
    λ place w ss e of made.
    let one = one-rule c.args.rules.now c.index-rules-0.result (c.is_direct.ensures.one c.if-is_direct.true) c.index-rules-0.is in
    direct-case place c.args.u e c.args.rules.now c.index-rules-0.result one (λ R. direct-fits R c.args.rules.now c.index-rules-0.result one ∙ sym (c.is_direct.ensures.is R) ∙ c.if-is_direct.true) made c.in_ok-a.ensures

pub push_case-returns : goal.push_case-returns
push_case-returns t c =
    λ place w ss e of made.
    rules-make place c.args.u c.args.of e (rules_read c.args.rules.now) c.in_ok-made.made (λ R. sym (c.is_direct.ensures.is R) ∙ c.if-is_direct.false) of made c.in_ok-made.ensures c.in_ok-a-2.ensures

pub make_rules-loop-i-init : goal.make_rules-loop-i-init
make_rules-loop-i-init t c = attempts-none _ (rules_read c.args.rules.now) c.args.matched c.args.u c.args.atom (otherwise_of c.args.other) _ c.new-attempts.ensures.items

pub make_rules-loop-i-preserved : goal.make_rules-loop-i-preserved
make_rules-loop-i-preserved t c =
    attempts-step _ c.loop-i.work _ (rules_read c.args.rules.now) c.args.rules.now c.loop-i.i c.index-rules-i.result c.args.matched c.args.u c.args.atom (otherwise_of c.args.other) c.loop-i.attempts.items _ c.loop-i-test.true
    c.index-rules-i.is c.loop-i.invariant c.in_ok-push_attempt.ensures

pub make_rules-returns : goal.make_rules-returns
make_rules-returns t c =
    let o = c.in_ok-made.ensures in
    attempts-end _ c.loop-i.work _ c.args.rules.now c.loop-i.i c.args.matched c.args.u c.args.atom (otherwise_of c.args.other) c.loop-i.attempts.items c.in_ok-made.made c.loop-i-test.false c.loop-i.invariant o.keeps o.next o.gives

pub push_links-loop-i-init : goal.push_links-loop-i-init
push_links-loop-i-init t c =
    λ last. linked-none _ _ c.args.goes_on (chain_read c.args.operands.now last)

pub push_links-loop-i-preserved : goal.push_links-loop-i-preserved
push_links-loop-i-preserved t c =
    λ last.
    let l = c.in_ok-push_link.ensures in
    linked-step c.args.goes_on (chain_read c.args.operands.now last) c.args.operands.now c.loop-i.i c.index-operands-i.result last c.loop-i-test.true c.index-operands-i.is (c.loop-i.invariant last) c.in_ok-value.ensures l.keeps l.next l.puts

pub push_links-returns : goal.push_links-returns
push_links-returns t c =
    λ last. linked-end c.args.goes_on (chain_read c.args.operands.now last) c.args.operands.now c.loop-i.i last c.loop-i-test.false (c.loop-i.invariant last)

pub make_function-returns-in_ok-made-in-Named : goal.make_function-returns-in_ok-made-in-Named
make_function-returns-in_ok-made-in-Named t c =
    function-as (named_read c.deref.result.now c.in-Named.last (expression c.deref-in-Named.result.now)) (function_read c.args.function.now)
    (λ R. named-node R c.args.function.now c.in-Named.parameters c.in-Named.last c.in-Named.body c.deref.result.now c.deref-in-Named.result.now c.in-Named.is c.deref.ensures.value c.deref-in-Named.ensures) c.in_ok-made-in-Named.ensures

pub make_function-returns-in_ok-made-in-ByRules : goal.make_function-returns-in_ok-made-in-ByRules
make_function-returns-in_ok-made-in-ByRules t c =
    function-as (by_rules_read c.deref-in-ByRules.result.now c.in-ByRules.field-1 c.in-ByRules.t c.in-ByRules.u c.deref-in-ByRules-2.result.now) (function_read c.args.function.now)
    (λ R. by_rules-node R c.args.function.now c.in-ByRules.parameters c.in-ByRules.field-1 c.in-ByRules.t c.in-ByRules.u c.in-ByRules.rules c.deref-in-ByRules.result.now c.deref-in-ByRules-2.result.now c.in-ByRules.is c.deref-in-ByRules.ensures.value c.deref-in-ByRules-2.ensures.value)
    (c.in_ok-made-in-ByRules.ensures c.in-ByRules.field-1)

pub push_decs-loop-i-init : goal.push_decs-loop-i-init
push_decs-loop-i-init t c = declares-none _ _ (decs_read c.args.decs.now)

pub push_decs-loop-i-preserved : goal.push_decs-loop-i-preserved
push_decs-loop-i-preserved t c = decs-step _ c.loop-i.work _ _ c.loop-i.steps.items _ c.args.decs.now c.loop-i.i c.index-decs-i.result c.loop-i-test.true c.index-decs-i.is c.loop-i.invariant c.in_ok-push_dec.ensures

pub push_decs-returns : goal.push_decs-returns
push_decs-returns t c = decs-end _ c.loop-i.work _ _ c.args.decs.now c.loop-i.i c.loop-i-test.false c.loop-i.invariant

pub push_bindings-loop-i-init : goal.push_bindings-loop-i-init
push_bindings-loop-i-init t c = binds-none _ _ c.args.parameters _ _

pub push_bindings-loop-i-preserved : goal.push_bindings-loop-i-preserved
push_bindings-loop-i-preserved t c =
    binds-step _ c.loop-i.work _ _ c.loop-i.steps.items _ c.args.parameters c.args.bindings.now c.loop-i.i c.index-bindings-i.result _ c.loop-i.spots.items _ c.loop-i-test.true c.index-bindings-i.is c.loop-i.invariant c.in_ok-push_binding.ensures

pub push_bindings-returns : goal.push_bindings-returns
push_bindings-returns t c = binds-end _ c.loop-i.work _ _ c.args.parameters c.args.bindings.now c.loop-i.i _ c.loop-i.spots.items c.loop-i-test.false c.loop-i.invariant

pub make_members-loop-i-init : goal.make_members-loop-i-init
make_members-loop-i-init t c = groups-none _ c.args.first c.args.first _ _ refl c.new-made.ensures.items

pub make_members-loop-i-preserved : goal.make_members-loop-i-preserved
make_members-loop-i-preserved t c =
    let m = c.in_ok-variable.ensures in
    let one = m.made c.index-functions-i.result.0 in
    groups-step _ c.loop-i.work _ c.args.first c.loop-i.variable _ c.args.functions.now c.loop-i.i c.index-functions-i.result c.loop-i.made.items _ c.loop-i-test.true c.index-functions-i.is m.next c.loop-i.invariant
    (record { keeps = one.keeps; next = one.next; gives = one.gives })

pub push_member-returns-clause-made : goal.push_member-returns-clause-made
push_member-returns-clause-made t c =
    λ vs.
    let y = c.in_ok-ty.ensures in
    member-made c.args.work.now _ _ (vs, c.args.t, c.args.function.now) c.args.variable c.in_ok-ty.ty c.in_ok-lambda.lambda c.args.made.now.items _ y.is y.next y.keeps c.in_ok-lambda.ensures c.in_ok-next.ensures.more

pub make_members-returns : goal.make_members-returns
make_members-returns t c = groups-end _ c.loop-i.work c.args.first c.loop-i.variable c.args.functions.now c.loop-i.i c.loop-i.made.items c.loop-i-test.false c.loop-i.invariant

pub push_direct-returns : goal.push_direct-returns
push_direct-returns t c =
    let f = c.in_ok-bind_all.ensures in
    let m = c.in_ok-a.ensures in
    direct-makes c.args.work.now _ c.push_exp.new.work _ c.args.rule.now c.args.value (grows-equal c.args.work.now _ refl refl refl refl refl refl) refl refl f m (grows-equal c.push_exp.new.work _ refl refl refl refl refl refl) refl refl
    (names-back _ _ _ c.len-bound.result c.len-bound.ensures (ends-as _ _ c.push_exp.new.work.names m.keeps.names f.ends) c.in_ok-restore.ensures)

pub push_rule-returns : goal.push_rule-returns
push_rule-returns t c =
    let w0 = c.args.work.now in
    let w3 = c.push_exp.new.work in
    let k = c.in_ok-push_match.ensures in
    let m = c.in_ok-value.ensures in
    tested-makes w0 c.push_match.new.work w3 _ c.args.rule.now c.args.matched c.args.atom k m (grows-equal w3 _ refl refl refl refl refl refl) refl refl
    (names-back w0.names w3.names _ c.len-bound.result c.len-bound.ensures (ends-as w0.names _ w3.names m.keeps.names k.ends) c.in_ok-restore.ensures)

pub push_attempt-returns : goal.push_attempt-returns
push_attempt-returns t c = attempt-added c.args.rule.now c.args.matched c.args.atom c.args.attempts.now.items _ c.new-steps.ensures.items c.in_ok-value.ensures c.in_ok-add_attempt.ensures

pub make_named-returns : goal.make_named-returns
make_named-returns t c =
    let w0 = c.args.work.now in
    let w2 = c.named_head.new.work in
    let w3 = c.push_exp.new.work in
    let h = c.in_ok-head.ensures in
    let m = c.in_ok-value.ensures in
    named-gives w0 w2 w3 _ c.args.parameters.now c.args.last (expression c.args.body.now) c.in_ok-head.head.parameters.items c.in_ok-head.head.last c.in_ok-made.made c.new-inner.ensures.items h m (grows-equal w3 _ refl refl refl refl refl refl)
    refl refl (names-back w0.names w3.names _ c.len-bound.result c.len-bound.ensures (ends-as w0.names _ w3.names (m.keeps.names ∙ h.last.names) (ends-more (c.args.last.variable, h.work.next) w0.names h.work.names h.before.ends)) c.in_ok-restore.ensures)
    c.in_ok-made.ensures

pub make_by_rules-returns : goal.make_by_rules-returns
make_by_rules-returns t c = λ place.
    let w0 = c.args.work.now in
    let w2 = c.unnamed_head.new.work in
    let w3 = c.make_rules.new.work in
    let h = c.in_ok-head.ensures in
    let r = c.in_ok-body.ensures in
    ruled-gives w0 w2 w3 _ c.args.parameters.now place c.args.t c.args.u c.args.rules.now c.in_ok-head.head.parameters.items c.in_ok-head.head.last c.in_ok-body.body c.with_body.result h r (grows-equal w3 _ refl refl refl refl refl refl) refl refl
    (names-back w0.names w3.names _ c.len-bound.result c.len-bound.ensures (ends-as w0.names h.work.names w3.names (r.keeps.names ∙ h.keeps.names) h.before.ends) c.in_ok-restore.ensures) c.with_body.ensures

pub push_dec-returns-in_ok-push_new_exception-in-Exception : goal.push_dec-returns-in_ok-push_new_exception-in-Exception
push_dec-returns-in_ok-push_new_exception-in-Exception t c = λ rest.
    let e = c.in_ok-push_new_exception-in-Exception.ensures in
    dec-exception _ _ _ _ c.args.dec.now c.in-Exception.variable c.in-Exception.identifier c.in-Exception.argument rest c.in-Exception.is e.grows e.scope e.names e.next e.puts

pub push_dec-returns-in_ok-push_counted-in-Weight : goal.push_dec-returns-in_ok-push_counted-in-Weight
push_dec-returns-in_ok-push_counted-in-Weight t c = λ rest. dec-counted c.args.work.now _ _ c.args.dec.now c.in-Weight.count rest c.in-Weight.is (c.in_ok-push_counted-in-Weight.ensures c.args.work.now)

pub push_functions-returns-clause-next : goal.push_functions-returns-clause-next
push_functions-returns-clause-next t c =
    group-next c.args.parameters c.args.first c.args.functions.now c.in_ok-members.members.items (grows-equal c.args.work.now _ refl refl refl refl refl refl) refl refl c.in_ok-push_scope.ensures c.parameters.ensures c.in_ok-members.ensures
    (grows-equal c.make_members.new.work _ refl refl refl refl refl refl) c.len-scope.result c.len-scope.ensures c.truncate.ensures refl refl c.in_ok-push_group.ensures

pub push_functions-returns-clause-keeps : goal.push_functions-returns-clause-keeps
push_functions-returns-clause-keeps t c =
    group-keeps c.args.parameters c.args.first c.args.functions.now c.in_ok-members.members.items (grows-equal c.args.work.now _ refl refl refl refl refl refl) refl refl c.in_ok-push_scope.ensures c.parameters.ensures c.in_ok-members.ensures
    (grows-equal c.make_members.new.work _ refl refl refl refl refl refl) c.len-scope.result c.len-scope.ensures c.truncate.ensures refl refl c.in_ok-push_group.ensures

pub push_functions-returns-clause-puts : goal.push_functions-returns-clause-puts
push_functions-returns-clause-puts t c =
    group-puts c.args.parameters c.args.first c.args.functions.now c.in_ok-members.members.items (grows-equal c.args.work.now _ refl refl refl refl refl refl) refl refl c.in_ok-push_scope.ensures c.parameters.ensures c.in_ok-members.ensures
    (grows-equal c.make_members.new.work _ refl refl refl refl refl refl) c.len-scope.result c.len-scope.ensures c.truncate.ensures refl refl c.in_ok-push_group.ensures

pub push_binding-returns-then-generalises : goal.push_binding-returns-then-generalises
push_binding-returns-then-generalises t c = λ rest.
    general-binds c.args.parameters c.args.manner c.args.rule.now _ _ (c.generalises.ensures.general c.if-generalises.true) c.in_ok-push_general.ensures rest

pub push_binding-returns : goal.push_binding-returns
push_binding-returns t c = λ rest.
    let k = c.in_ok-push_tests.ensures in
    plain-binds c.args.parameters c.args.manner c.args.rule.now _ _ (c.generalises.ensures.plain c.if-generalises.false) c.in_ok-value.ensures k.next k.keeps k.spots k.tests rest

pub push_general-returns : goal.push_general-returns
push_general-returns t c =
    let m = c.in_ok-value.ensures in
    let h = c.in_ok-push_shaped.ensures in
    shape-generalises c.args.parameters c.args.ty c.args.rule.now c.args.spots.now.items c.push_shaped.new.spots.items c.new-inner.ensures.items (grows-equal c.args.work.now _ refl refl refl refl refl refl) refl refl c.in_ok-push_scope.ensures
    c.parameters.ensures m h.keeps (grows-equal c.push_shaped.new.work _ refl refl refl refl refl refl) c.len-scope.result c.len-scope.ensures c.truncate.ensures refl refl c.sole_variable-sole.result c.sole_variable-sole.ensures h.next h.spots h.puts

pub push_head-returns-in_ok-operator-in-Call-clause-begins : goal.push_head-returns-in_ok-operator-in-Call-clause-begins
push_head-returns-in_ok-operator-in-Call-clause-begins t c =
    c.in_ok-operator-in-Call.ensures

pub push_head-returns-in_ok-operator-in-Call-clause-goes : goal.push_head-returns-in_ok-operator-in-Call-clause-goes
push_head-returns-in_ok-operator-in-Call-clause-goes t c =
    λ R. ap (λ w. way_of w R) c.in-Call.is

pub push_head-returns-in_ok-name-in-Building-clause-begins : goal.push_head-returns-in_ok-name-in-Building-clause-begins
push_head-returns-in_ok-name-in-Building-clause-begins t c =
    c.in_ok-name-in-Building.ensures

pub push_head-returns-in_ok-name-in-Building-clause-goes : goal.push_head-returns-in_ok-name-in-Building-clause-goes
push_head-returns-in_ok-name-in-Building-clause-goes t c =
    λ R. ap (λ w. way_of w R) c.in-Building.is

pub push_head-returns-in_ok-push_weights-in-Performing-clause-begins : goal.push_head-returns-in_ok-push_weights-in-Performing-clause-begins
push_head-returns-in_ok-push_weights-in-Performing-clause-begins t c =
    c.in_ok-push_weights-in-Performing.ensures _

pub push_head-returns-in_ok-push_weights-in-Performing-clause-goes : goal.push_head-returns-in_ok-push_weights-in-Performing-clause-goes
push_head-returns-in_ok-push_weights-in-Performing-clause-goes t c =
    λ R. ap (λ w. way_of w R) c.in-Performing.is

pub push_argument-returns-in_ok-a-in-Call : goal.push_argument-returns-in_ok-a-in-Call
push_argument-returns-in_ok-a-in-Call t c =
    λ w ss f goes b. c.in_ok-a-in-Call.ensures _ _ _ _ f (expression c.args.argument.now) (λ R. goes R ∙ ap (λ o. going o R) c.in-Call.is)
    (subst (λ o. Begins w c.args.work.now ss c.args.steps.now.items f o) c.in-Call.is b) c.in_ok-operand-in-Call.ensures

pub push_argument-returns-in_ok-a-in-Building : goal.push_argument-returns-in_ok-a-in-Building
push_argument-returns-in_ok-a-in-Building t c =
    λ w ss f goes b. c.in_ok-a-in-Building.ensures _ _ _ _ f (expression c.args.argument.now) (λ R. goes R ∙ ap (λ o. going o R) c.in-Building.is) c.type_of-of.ensures
    (subst (λ o. Begins w c.args.work.now ss c.args.steps.now.items f o) c.in-Building.is b) c.in_ok-value-in-Building.ensures

pub push_argument-returns-in_ok-a-in-Performing : goal.push_argument-returns-in_ok-a-in-Performing
push_argument-returns-in_ok-a-in-Performing t c =
    λ w ss f goes b. c.in_ok-a-in-Performing.ensures _ _ _ _ f (expression c.args.argument.now) (λ R. goes R ∙ ap (λ o. going o R) c.in-Performing.is)
    (subst (λ o. Begins w c.args.work.now ss c.args.steps.now.items f o) c.in-Performing.is b) (parts-read (expression c.args.argument.now) _ _ c.deref.ensures.value c.in_ok-parts-in-Performing.ensures)

pub push_arguments-loop-i-init : goal.push_arguments-loop-i-init
push_arguments-loop-i-init t c =
    λ w ss f goes b. apply-first c.args.place f c.args.arguments.now 1 c.index-arguments-0.result refl c.requires c.index-arguments-0.is
    (c.in_ok-value.ensures w ss (expression f) (λ R. goes R c.index-arguments-0.result c.index-arguments-0.is) b)

pub push_arguments-loop-i-preserved : goal.push_arguments-loop-i-preserved
push_arguments-loop-i-preserved t c =
    λ w ss f goes b. apply-step c.args.place f c.args.arguments.now c.loop-i.i c.index-arguments-i.result c.loop-i-test.true c.index-arguments-i.is (c.loop-i.invariant w ss f goes b) c.in_ok-argument.ensures c.in_ok-value-2.ensures

pub push_arguments-returns : goal.push_arguments-returns
push_arguments-returns t c =
    λ w ss f goes b. apply-end c.args.place f c.args.arguments.now c.loop-i.i c.loop-i-test.false (c.loop-i.invariant w ss f goes b)

pub push_operator-returns-then-i-joins : goal.push_operator-returns-then-i-joins
push_operator-returns-then-i-joins t c =
    first-none _ _ c.args.joins.now c.args.i (omega (arith, c.if-i-joins.true))

pub push_operator-returns : goal.push_operator-returns
push_operator-returns t c =
    first-some c.args.joins.now c.args.i c.index-joins-i.result c.in_ok-opening.opening (omega (arith, c.if-i-joins.false)) c.index-joins-i.is c.in_ok-opening.ensures

pub push_waiting-returns-in_default : goal.push_waiting-returns-in_default
push_waiting-returns-in_default t c =
    λ w v ss us e none first made.
    waiting-never _ c.args.joins.now c.loop-i.i c.loop-i.openings.items c.loop-i-test.true c.in_default.is (c.loop-i.invariant w v ss us e none first made)

pub push_dropped-loop-i-init : goal.push_dropped-loop-i-init
push_dropped-loop-i-init t c =
    λ last place u w s a p. p

pub push_dropped-loop-i-preserved : goal.push_dropped-loop-i-preserved
push_dropped-loop-i-preserved t c =
    λ last. turn-step c.args.dropped.now c.loop-i.i c.index-dropped-i.result last c.loop-i-test.true c.index-dropped-i.is (c.loop-i.invariant last) c.in_ok-push_exp.ensures

pub push_dropped-returns : goal.push_dropped-returns
push_dropped-returns t c =
    λ place u w s last a p. turn-end c.args.dropped.now c.loop-i.i last c.loop-i-test.false (c.loop-i.invariant last) place u w s a p

pub push_dec-returns-in_ok-bind_spots-in-Val : goal.push_dec-returns-in_ok-bind_spots-in-Val
push_dec-returns-in_ok-bind_spots-in-Val t c =
    λ rest.
    let w2 = c.reserve.new.work in
    let w4 = c.push_functions.new.work in
    let fs = c.deref-functions.result.now in
    let bs = c.deref.result.now in
    let r = c.in_ok-first-in-Val.ensures in
    let g = c.in_ok-bind_group-in-Val.ensures in
    let f = c.in_ok-push_functions-in-Val.ensures in
    dec-val _ _ _ _ c.args.dec.now c.in-Val.parameters c.in-Val.bindings c.in-Val.functions bs fs rest c.in-Val.is c.deref.ensures.value c.deref-functions.ensures.value
    (val-declares c.in-Val.parameters bs fs rest _ c.push_bindings.new.spots.items c.in_ok-first-in-Val.first c.new-spots.ensures.items c.in_ok-push_bindings-in-Val.ensures r.is
    r.next r.keeps
    (grows-equal w2 _ refl refl refl refl refl refl) refl refl g.ends g.names f.keeps f.next f.puts (grows-equal w4 _ refl refl refl refl refl refl) refl refl
    (c.in_ok-bind_spots-in-Val.ensures ∙ ap (λ l. names_onto l w4.names) c.deref-in-Val.ensures.value))
