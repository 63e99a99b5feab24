use Rattle.std.proofs.Common.{refl, sym, ap, ap₂, ◌++◌, ◌∙◌}
use Rattle.std.specs.Prelude.{flat_map}
use Rattle.scoped_tyvars.specs.Unguarded.{back, dec_tyvars, exp_tyvars, field_tyvars, rule_tyvars, ty_tyvars}
use Rattle.scoped_tyvars.proofs.Listing.{both-parts, if-ok, list-ends, list-next, back-begins, back-ends, back-goes, nothing-found}
use Rattle.scoped_tyvars.proofs.Nodes.{exp-Apply, exp-BuiltIn, exp-Constant, exp-Fn, exp-Handle, exp-Let, exp-List, exp-Raise, exp-Record, exp-Sequence, exp-Tuple, exp-Typed, exp-Vid}
use Rattle.scoped_tyvars.proofs.Chains.{plain-ends, plain-next, turned-begins, turned-ends, turned-goes, left-found, right-found}
use Rattle.scoped_tyvars.proofs.exps.+exps.Goals as goal

pub of_exps-loop-i-init : goal.of_exps-loop-i-init
of_exps-loop-i-init t c = refl

pub of_exps-loop-i-preserved : goal.of_exps-loop-i-preserved
of_exps-loop-i-preserved t c =
    list-next exp_tyvars c.args.exps.now c.loop-i.i c.index-exps-i.result c.loop-i.found.items _ _ c.loop-i-test.true c.index-exps-i.is c.loop-i.invariant c.in_ok-of_exp.ensures

pub of_exps-returns : goal.of_exps-returns
of_exps-returns t c = list-ends exp_tyvars c.args.exps.now c.loop-i.i c.loop-i.found.items _ c.loop-i-test.false c.loop-i.invariant

pub of_fields-loop-i-init : goal.of_fields-loop-i-init
of_fields-loop-i-init t c = refl

pub of_fields-loop-i-preserved : goal.of_fields-loop-i-preserved
of_fields-loop-i-preserved t c =
    list-next field_tyvars c.args.fields.now c.loop-i.i c.index-fields-i.result c.loop-i.found.items _ _ c.loop-i-test.true c.index-fields-i.is c.loop-i.invariant c.in_ok-of_exp.ensures

pub of_fields-returns : goal.of_fields-returns
of_fields-returns t c = list-ends field_tyvars c.args.fields.now c.loop-i.i c.loop-i.found.items _ c.loop-i-test.false c.loop-i.invariant

pub of_rules-loop-i-init : goal.of_rules-loop-i-init
of_rules-loop-i-init t c = refl

pub of_rules-loop-i-preserved : goal.of_rules-loop-i-preserved
of_rules-loop-i-preserved t c =
    list-next rule_tyvars c.args.rules.now c.loop-i.i c.index-rules-i.result c.loop-i.found.items _ _ c.loop-i-test.true c.index-rules-i.is c.loop-i.invariant (both-parts c.loop-i.found.items _ _ _ _ _ c.in_ok-of_pat.ensures c.in_ok-of_exp.ensures refl)

pub of_rules-returns : goal.of_rules-returns
of_rules-returns t c = list-ends rule_tyvars c.args.rules.now c.loop-i.i c.loop-i.found.items _ c.loop-i-test.false c.loop-i.invariant

pub of_back-loop-i-init : goal.of_back-loop-i-init
of_back-loop-i-init t c = back-begins exp_tyvars c.args.exps.now _ c.args.found.now.items refl

pub of_back-loop-i-preserved : goal.of_back-loop-i-preserved
of_back-loop-i-preserved t c =
    back-goes exp_tyvars c.args.exps.now c.loop-i.i c.index-exps-i.result c.args.found.now.items c.loop-i.found.items _ c.loop-i.invariant c.loop-i-test.true c.index-exps-i.is c.in_ok-of_exp.ensures

pub of_back-returns : goal.of_back-returns
of_back-returns t c = back-ends exp_tyvars c.args.exps.now c.loop-i.i c.args.found.now.items c.loop-i.found.items c.loop-i-test.false c.loop-i.invariant

pub of_plain-loop-i-init : goal.of_plain-loop-i-init
of_plain-loop-i-init t c = refl

pub of_plain-loop-i-preserved : goal.of_plain-loop-i-preserved
of_plain-loop-i-preserved t c =
    plain-next c.args.right c.args.parts.now c.loop-i.i c.index-parts-i.result c.is_turned-turned.result c.loop-i.found.items _ _ c.loop-i-test.true c.index-parts-i.is c.loop-i.invariant
    c.is_turned-turned.ensures c.in_ok-of_exp_if.ensures

pub of_plain-returns : goal.of_plain-returns
of_plain-returns t c = plain-ends c.args.right c.args.parts.now c.loop-i.i c.loop-i.found.items _ c.loop-i-test.false c.loop-i.invariant

pub of_turned-loop-i-init : goal.of_turned-loop-i-init
of_turned-loop-i-init t c = turned-begins c.args.right c.args.parts.now _ c.args.found.now.items refl

pub of_turned-loop-i-preserved : goal.of_turned-loop-i-preserved
of_turned-loop-i-preserved t c =
    turned-goes c.args.right c.args.parts.now c.loop-i.i c.index-parts-i.result c.is_turned-turned.result c.args.found.now.items c.loop-i.found.items _ c.loop-i.invariant c.loop-i-test.true
    c.index-parts-i.is c.is_turned-turned.ensures c.in_ok-of_exp_if.ensures

pub of_turned-returns : goal.of_turned-returns
of_turned-returns t c = turned-ends c.args.right c.args.parts.now c.loop-i.i c.args.found.now.items c.loop-i.found.items c.loop-i-test.false c.loop-i.invariant

pub of_exp-returns-in-Constant : goal.of_exp-returns-in-Constant
of_exp-returns-in-Constant t c = nothing-found c.args.found.now.items _ (exp-Constant c.args.exp.now c.in-Constant.field-0 c.in-Constant.field-1 c.in-Constant.is)

pub of_exp-returns-in-Vid : goal.of_exp-returns-in-Vid
of_exp-returns-in-Vid t c = nothing-found c.args.found.now.items _ (exp-Vid c.args.exp.now c.in-Vid.field-0 c.in-Vid.field-1 c.in-Vid.is)

pub of_exp-returns-in-BuiltIn : goal.of_exp-returns-in-BuiltIn
of_exp-returns-in-BuiltIn t c = nothing-found c.args.found.now.items _ (exp-BuiltIn c.args.exp.now c.in-BuiltIn.field-0 c.in-BuiltIn.field-1 c.in-BuiltIn.is)

pub of_exp-returns-in-Record : goal.of_exp-returns-in-Record
of_exp-returns-in-Record t c = if-ok c.of_fields.result (λ u k. k ∙ ap (λ l. c.args.found.now.items ++ l) (ap (flat_map field_tyvars) c.deref.ensures.value ∙ sym (exp-Record c.args.exp.now c.in-Record.field-0 c.in-Record.fields c.in-Record.is))) c.of_fields.ensures

pub of_exp-returns-in-Tuple : goal.of_exp-returns-in-Tuple
of_exp-returns-in-Tuple t c = if-ok c.of_exps.result (λ u k. k ∙ ap (λ l. c.args.found.now.items ++ l) (ap (flat_map exp_tyvars) c.deref-in-Tuple.ensures.value ∙ sym (exp-Tuple c.args.exp.now c.in-Tuple.field-0 c.in-Tuple.parts c.in-Tuple.is))) c.of_exps.ensures

pub of_exp-returns-in-List : goal.of_exp-returns-in-List
of_exp-returns-in-List t c = if-ok c.of_exps-in-List.result (λ u k. k ∙ ap (λ l. c.args.found.now.items ++ l) (ap (flat_map exp_tyvars) c.deref-in-List.ensures.value ∙ sym (exp-List c.args.exp.now c.in-List.field-0 c.in-List.elements c.in-List.is))) c.of_exps-in-List.ensures

pub of_exp-returns-in_ok-of_back-in-Sequence : goal.of_exp-returns-in_ok-of_back-in-Sequence
of_exp-returns-in_ok-of_back-in-Sequence t c = if-ok c.of_exp.result (λ u k. both-parts c.args.found.now.items _ _ _ _ _ c.in_ok-of_back-in-Sequence.ensures k (ap₂ (λ a b. a ++ b) (ap (back exp_tyvars) c.deref-in-Sequence.ensures.value) (ap exp_tyvars c.deref-in-Sequence-2.ensures) ∙ sym (exp-Sequence c.args.exp.now c.in-Sequence.field-0 c.in-Sequence.first c.in-Sequence.rest c.in-Sequence.is))) c.of_exp.ensures

pub of_exp-returns-in_ok-of_decs-in-Let : goal.of_exp-returns-in_ok-of_decs-in-Let
of_exp-returns-in_ok-of_decs-in-Let t c = if-ok c.of_exp-in-Let.result (λ u k. both-parts c.args.found.now.items _ _ _ _ _ c.in_ok-of_decs-in-Let.ensures k (ap₂ (λ a b. a ++ b) (ap (flat_map dec_tyvars) c.deref-in-Let.ensures.value) (ap exp_tyvars c.deref-in-Let-2.ensures) ∙ sym (exp-Let c.args.exp.now c.in-Let.field-0 c.in-Let.decs c.in-Let.body c.in-Let.is))) c.of_exp-in-Let.ensures

pub of_exp-returns-in_ok-of_exp-in-Apply : goal.of_exp-returns-in_ok-of_exp-in-Apply
of_exp-returns-in_ok-of_exp-in-Apply t c = if-ok c.of_exps-in-Apply.result (λ u k. both-parts c.args.found.now.items _ _ _ _ _ c.in_ok-of_exp-in-Apply.ensures k (ap₂ (λ a b. a ++ b) (ap exp_tyvars c.deref-in-Apply.ensures) (ap (flat_map exp_tyvars) c.deref-in-Apply-2.ensures.value) ∙ sym (exp-Apply c.args.exp.now c.in-Apply.field-0 c.in-Apply.function c.in-Apply.arguments c.in-Apply.is))) c.of_exps-in-Apply.ensures

pub of_exp-returns-in_ok-of_exp-in-Typed : goal.of_exp-returns-in_ok-of_exp-in-Typed
of_exp-returns-in_ok-of_exp-in-Typed t c = if-ok c.of_ty.result (λ u k. both-parts c.args.found.now.items _ _ _ _ _ c.in_ok-of_exp-in-Typed.ensures k (ap (λ a. a ++ ty_tyvars c.in-Typed.ty) (ap exp_tyvars c.deref-in-Typed.ensures) ∙ sym (exp-Typed c.args.exp.now c.in-Typed.field-0 c.in-Typed.body c.in-Typed.ty c.in-Typed.is))) c.of_ty.ensures

pub of_exp-returns-in_ok-of_exp-in-Handle : goal.of_exp-returns-in_ok-of_exp-in-Handle
of_exp-returns-in_ok-of_exp-in-Handle t c = if-ok c.of_rules.result (λ u k. both-parts c.args.found.now.items _ _ _ _ _ c.in_ok-of_exp-in-Handle.ensures k (ap₂ (λ a b. a ++ b) (ap exp_tyvars c.deref-in-Handle.ensures) (ap (flat_map rule_tyvars) c.deref-in-Handle-2.ensures.value) ∙ sym (exp-Handle c.args.exp.now c.in-Handle.field-0 c.in-Handle.body c.in-Handle.rules c.in-Handle.is))) c.of_rules.ensures

pub of_exp-returns-in-Raise : goal.of_exp-returns-in-Raise
of_exp-returns-in-Raise t c = if-ok c.of_exp-in-Raise.result (λ u k. k ∙ ap (λ l. c.args.found.now.items ++ l) (ap exp_tyvars c.deref-in-Raise.ensures ∙ sym (exp-Raise c.args.exp.now c.in-Raise.field-0 c.in-Raise.body c.in-Raise.is))) c.of_exp-in-Raise.ensures

pub of_exp-returns-in-Fn : goal.of_exp-returns-in-Fn
of_exp-returns-in-Fn t c = if-ok c.of_rules-in-Fn.result (λ u k. k ∙ ap (λ l. c.args.found.now.items ++ l) (ap (flat_map rule_tyvars) c.deref-in-Fn.ensures.value ∙ sym (exp-Fn c.args.exp.now c.in-Fn.field-0 c.in-Fn.rules c.in-Fn.is))) c.of_rules-in-Fn.ensures

pub of_exp-returns-in_ok-of_turned-in-Chain : goal.of_exp-returns-in_ok-of_turned-in-Chain
of_exp-returns-in_ok-of_turned-in-Chain t c =
    if-ok c.of_exp_if-then-right.result
    (λ u k.
    right-found c.args.exp.now c.in-Chain.field-0 c.in-Chain.right c.in-Chain.first c.in-Chain.parts c.in-Chain.is c.if-right.true c.args.found.now.items _ _ _ _ c.follows-behind.result _ _ _ _ _
    c.deref-then-right.ensures.value c.deref-then-right-3.ensures.value c.deref-then-right-4.ensures.value c.deref-then-right-2.ensures c.deref-then-right-5.ensures c.follows-behind.ensures
    c.in_ok-of_exp_if-in-Chain.ensures c.in_ok-of_plain-in-Chain.ensures c.in_ok-of_turned-in-Chain.ensures k)
    c.of_exp_if-then-right.ensures

pub of_exp-returns-in_ok-of_exp-in-Chain : goal.of_exp-returns-in_ok-of_exp-in-Chain
of_exp-returns-in_ok-of_exp-in-Chain t c =
    if-ok c.of_plain-else-right.result
    (λ u k.
    left-found c.args.exp.now c.in-Chain.field-0 c.in-Chain.right c.in-Chain.first c.in-Chain.parts c.in-Chain.is c.if-right.false c.args.found.now.items _ _ _ _ _ _
    c.deref-else-right.ensures.value c.deref-else-right-3.ensures.value c.deref-else-right-2.ensures c.in_ok-of_turned-in-Chain-2.ensures c.in_ok-of_exp-in-Chain.ensures k)
    c.of_plain-else-right.ensures
