use Rattle.std.proofs.Common.{length, ap, sym, ◌∙◌, arith}
use Rattle.std.proofs.lemmas.Bool.{eqb-false}
use Rattle.std.proofs.lemmas.Result.{IfOk-weaker}
use Rattle.ir_poly.specs.Prog as prog
use Rattle.prog_tree.specs.TreeOf.{pat_of}
use Rattle.match_steps.specs.of_match_types.declared.work.ValueType.TheVariants.{Source}
use Rattle.pattern_tests.specs.Tasks.{pattern, finished}
use Rattle.pattern_tests.specs.Parts.{field_patterns, behind, record_pattern, variable_pattern, as_pattern, constant_pattern, con_pattern, exn_pattern, chained}
use Rattle.pattern_tests.proofs.Doing.{done-then, done-pat, done-nothing}
use Rattle.pattern_tests.proofs.Nodes.{pat_of-Any, pat_of-Variable, pat_of-Constant, pat_of-Constructor, pat_of-Exception, pat_of-Before, pat_of-As}
use Rattle.pattern_tests.proofs.Chains.{record-is, chain-is}
use Rattle.pattern_tests.proofs.Loops.{fields-step, fields-end, fields-all, right-inner, right-step, right-end, left-step, left-empty, chain-all, pairs-as, child-as}
use Rattle.pattern_tests.proofs.patterns.+patterns.Goals as goal

pub push_fields-loop-i-preserved : goal.push_fields-loop-i-preserved
push_fields-loop-i-preserved t c =
    fields-step c.args.fields.now c.loop-i.i c.index-fields-i.result c.args.u c.args.atom c.in_ok-a.a c.loop-i-test.true c.index-fields-i.is c.loop-i.invariant c.in_ok-a.ensures c.in_ok-push_pat.ensures

pub push_fields-returns : goal.push_fields-returns
push_fields-returns t c = fields-end c.args.fields.now c.loop-i.i c.args.u c.args.atom c.loop-i-test.false c.loop-i.invariant

pub push_left-loop-i-preserved : goal.push_left-loop-i-preserved
push_left-loop-i-preserved t c =
    left-step c.args.parts.now c.loop-i.i c.index-parts-i.result c.loop-i.pairs.items c.pop.new.self.items c.in-Some.joint c.loop-i-test.true c.index-parts-i.is c.in-Some.ensures.items c.loop-i.invariant
    c.in_ok-push_last.ensures

pub push_left-returns-in_default : goal.push_left-returns-in_default
push_left-returns-in_default t c = left-empty _ c.loop-i.pairs.items (omega (arith, c.loop-i.pairs.ok.0, c.in_default.ensures.cases.0)) c.loop-i.invariant

pub push_last-returns : goal.push_last-returns
push_last-returns t c = IfOk-weaker c.push_pat.result _ _ (λ _ p. done-then (c.in_ok-a.ensures (pattern c.args.part.now.pat)) p) c.push_pat.ensures

pub push_inner-returns : goal.push_inner-returns
push_inner-returns t c = right-inner c.args.part.now c.args.next.now c.args.joint _ _ _ c.in_ok-rest.ensures c.in_ok-inner.ensures c.in_ok-a.ensures c.in_ok-push_pat.ensures

pub push_right-loop-i-preserved : goal.push_right-loop-i-preserved
push_right-loop-i-preserved t c =
    right-step c.args.parts.now c.loop-i.i c.index-parts-i.result c.index-parts-i-in-loop-i.result c.loop-i.joint c.in_ok-joint.joint (omega arith) c.index-parts-i.is c.index-parts-i-in-loop-i.is c.loop-i.invariant c.in_ok-joint.ensures

pub push_right-returns : goal.push_right-returns
push_right-returns t c =
    let some = eqb-false (length c.args.parts.now) 0 (sym c.is_empty.ensures ∙ c.if-is_empty.false) in
    IfOk-weaker c.push_last.result _ _
    (λ _ p. right-end c.args.parts.now c.loop-i.i _ c.index-parts-last.result c.loop-i.joint (omega arith) (omega (arith, some)) c.index-parts-last.is c.loop-i.invariant p) c.push_last.ensures

pub push_parts-returns-in-Right : goal.push_parts-returns-in-Right
push_parts-returns-in-Right t c = IfOk-weaker c.push_right.result _ _ (λ _ p. pairs-as c.args.parts.now c.args.pairs _ c.in-Right.is p) c.push_right.ensures

pub push_parts-returns-in-Left : goal.push_parts-returns-in-Left
push_parts-returns-in-Left t c = IfOk-weaker c.push_left.result _ _ (λ _ p. pairs-as c.args.parts.now c.args.pairs _ c.in-Left.is p) c.push_left.ensures

pub push_pat-returns-in-Any : goal.push_pat-returns-in-Any
push_pat-returns-in-Any t c = done-pat (pattern c.args.pat.now) (λ R. prog.any_pat) c.args.u c.args.atom (λ R. sym (ap (pat_of R) c.in-Any.is ∙ pat_of-Any R)) (done-nothing c.args.work.now c.args.made.now finished)

pub push_pat-returns-in-Variable : goal.push_pat-returns-in-Variable
push_pat-returns-in-Variable t c = IfOk-weaker c.push_spot.result _ _
    (λ _ p. done-pat (pattern c.args.pat.now) (variable_pattern c.in-Variable.x) c.args.u c.args.atom (λ R. sym (ap (pat_of R) c.in-Variable.is ∙ pat_of-Variable R c.in-Variable.x)) (p c.args.work.now)) c.push_spot.ensures.variable

pub push_pat-returns-in-Constant : goal.push_pat-returns-in-Constant
push_pat-returns-in-Constant t c = IfOk-weaker c.push_constant.result _ _
    (λ _ p. done-pat (pattern c.args.pat.now) (constant_pattern c.in-Constant.constant) c.args.u c.args.atom (λ R. sym (ap (pat_of R) c.in-Constant.is ∙ pat_of-Constant R c.in-Constant.constant)) p) c.push_constant.ensures

pub push_pat-returns-in-Constructor : goal.push_pat-returns-in-Constructor
push_pat-returns-in-Constructor t c = IfOk-weaker c.push_constructor.result _ _
    (λ _ p. done-pat (pattern c.args.pat.now) (con_pattern c.in-Constructor.constructor) c.args.u c.args.atom (λ R. sym (ap (pat_of R) c.in-Constructor.is ∙ pat_of-Constructor R c.in-Constructor.constructor)) p) c.push_constructor.ensures

pub push_pat-returns-in-Exception : goal.push_pat-returns-in-Exception
push_pat-returns-in-Exception t c = IfOk-weaker c.push_exception.result _ _
    (λ _ p. done-pat (pattern c.args.pat.now) (exn_pattern c.in-Exception.exception) c.args.u c.args.atom (λ R. sym (ap (pat_of R) c.in-Exception.is ∙ pat_of-Exception R c.in-Exception.exception)) p) c.push_exception.ensures

pub push_pat-returns-in_ok-a-in-Before : goal.push_pat-returns-in_ok-a-in-Before
push_pat-returns-in_ok-a-in-Before t c = IfOk-weaker c.push_pat.result _ _
    (λ _ p. done-pat (pattern c.args.pat.now) (behind c.in-Before.head c.in-Before.w (pattern c.in-Before.argument.value)) c.args.u c.args.atom
    (λ R. sym (ap (pat_of R) c.in-Before.is ∙ pat_of-Before R c.in-Before.head c.in-Before.w c.in-Before.argument))
    (done-then (c.in_ok-a-in-Before.ensures (pattern c.in-Before.argument.value)) (child-as _ c.in-Before.argument.value (Source c.in-Before.w) c.in_ok-a-in-Before.a c.deref.ensures p))) c.push_pat.ensures

pub push_pat-returns-in_ok-push_spot-in-As : goal.push_pat-returns-in_ok-push_spot-in-As
push_pat-returns-in_ok-push_spot-in-As t c = IfOk-weaker c.push_pat-in-As.result _ _
    (λ _ p. done-pat (pattern c.args.pat.now) (as_pattern c.in-As.x (pattern c.in-As.inner.value)) c.args.u c.args.atom (λ R. sym (ap (pat_of R) c.in-As.is ∙ pat_of-As R c.in-As.x c.in-As.inner))
    (done-then (c.in_ok-push_spot-in-As.ensures.alias c.args.work.now (pattern c.in-As.inner.value)) (child-as _ c.in-As.inner.value _ _ c.deref-in-As.ensures p))) c.push_pat-in-As.ensures

pub push_pat-returns-in_ok-push_record-in-Record : goal.push_pat-returns-in_ok-push_record-in-Record
push_pat-returns-in_ok-push_record-in-Record t c = IfOk-weaker c.push_fields.result _ _
    (λ _ p. done-pat (pattern c.args.pat.now) (record_pattern c.in-Record.further (field_patterns c.in-Record.fields.items)) c.args.u c.args.atom (λ R. record-is R c.args.pat.now c.in-Record.further c.in-Record.fields c.in-Record.is)
    (fields-all c.in-Record.fields.items c.deref-in-Record.result.now c.deref-in-Record-2.result.now c.in-Record.further c.size-size.result c.args.u c.args.atom c.deref-in-Record.ensures.value c.deref-in-Record-2.ensures.value
    c.size-size.ensures c.in_ok-push_record-in-Record.ensures p)) c.push_fields.ensures

pub push_pat-returns-in_ok-push_pat-in-Chain : goal.push_pat-returns-in_ok-push_pat-in-Chain
push_pat-returns-in_ok-push_pat-in-Chain t c =
    let o = c.in_ok-opened-in-Chain.opened in
    IfOk-weaker c.push_parts.result _ _
    (λ _ p. done-pat (pattern c.args.pat.now) (chained c.in-Chain.side (pattern c.in-Chain.first.value) c.in-Chain.parts.items) c.args.u c.args.atom
    (λ R. chain-is R c.args.pat.now c.in-Chain.side c.in-Chain.first c.in-Chain.parts c.in-Chain.is)
    (chain-all c.in-Chain.side (pattern c.in-Chain.first.value) c.in-Chain.parts.items c.deref-in-Chain.result.now c.deref-in-Chain-3.result.now o.pairs c.args.u o.ty c.args.atom o.atom c.deref-in-Chain.ensures.value
    c.deref-in-Chain-3.ensures.value c.in_ok-opened-in-Chain.ensures (child-as _ c.in-Chain.first.value _ _ c.deref-in-Chain-2.ensures c.in_ok-push_pat-in-Chain.ensures) p)) c.push_parts.ensures
