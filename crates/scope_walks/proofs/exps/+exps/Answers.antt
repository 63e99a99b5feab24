use Rattle.std.proofs.Common.{List, [], map, filter, inl, inr, refl, sym, ap, ap₂, subst, ◌∙◌}
use Rattle.std.specs.Prelude.{unwrap_or}
use Rattle.sml_tree.specs.Derived.{one_or_tuple_pat}
use Rattle.sml_tree.specs.TreeOf.{bind_of, binds_of, data_bind_of, dec_of, decs_of, ex_bind_of, long_id_at_of, long_vid_of, pat_of, type_bind_of}
use Rattle.sml_tree.specs.declared.tree.Bind.{Bind}
use Rattle.sml_tree.specs.declared.tree.Dec.{Dec}
use Rattle.sml_tree.specs.declared.tree.ExpField.{ExpField}
use Rattle.sml_tree.specs.declared.tree.Pat.{Pat}
use Rattle.core_rules.specs.Eval.{datatypes_env, opened, types_env}
use Rattle.core_rules.specs.Unbound.{all_in, decs_in, exns_names, pat_names, rec_names}
use Rattle.core_rules.specs.Values.{nothing, plus}
use Rattle.name_scopes.specs.Bindings.{val_phrase}
use Rattle.name_scopes.specs.Covering.{is_written}
use Rattle.name_scopes.specs.Nodes.{bind_phrase, clause_phrase, exn_phrase, exp_phrase, function_phrase, pat_phrase, rule_phrase, type_phrase}
use Rattle.name_scopes.specs.Parts.{InParts, datatype_scopes, expanded, structures_unbound, withtype_scopes}
use Rattle.name_scopes.specs.Patterns.{binds_vids}
use Rattle.name_scopes.specs.Placed.{AnyAt, At, FoundAt}
use Rattle.name_scopes.proofs.DecNodes.{datatypes-expanded, dec-Abbreviation, dec-Datatype, dec-Declarations, dec-Exception, dec-Local-decs, dec-Local-shown, dec-Open-own, dec-Replicate, dec-Val-binds, dec-Val-own, dec-Val-recs}
use Rattle.name_scopes.proofs.DecNodes.{names-Abbreviation, names-Datatype, names-Declarations, names-Exception, names-Fun, names-Local, names-Open, names-Replicate, names-Val, names-Withtype, nothing-plus}
use Rattle.name_scopes.proofs.ExpNodes.{bind-in-exp, bind-in-pat, clause-in-exp, clause-in-pats, rule-in-exp, rule-in-pat}
use Rattle.name_scopes.proofs.ExpNodes.{exp-Apply-first, exp-Apply-rest, exp-Chain-first, exp-Fn, exp-Handle-body, exp-Handle-rules, exp-Let-body, exp-Let-decs, exp-List, exp-Raise, exp-Record}
use Rattle.name_scopes.proofs.ExpNodes.{exp-Sequence-first, exp-Sequence-rest, exp-Tuple, exp-Typed-body, exp-Typed-ty, exp-Vid}
use Rattle.name_scopes.proofs.PatNodes.{one-or-tuple}
use Rattle.scope_walks.specs.Functions.{fun_names}
use Rattle.scope_walks.proofs.Nodes.{chain-parts, fun-parts, function-found, joint-found, own-value, part-found, plain-datatype, withtype-parts}
use Rattle.scope_walks.proofs.Walking.{brought-named, closes-named, declared-from, declared-if, declared-inside, declared-true, first-found, found-in-decs, functions-if, inside-found, inside-left, list-found, local-kept, looked, looked-true}
use Rattle.scope_walks.proofs.Walking.{none-found, ran-all, ran-found, ran-next, ran-none, run_names, second-found, seen-true, val-closed, walked-for, walked-if}
use Rattle.scope_walks.proofs.exps.+exps.Goals as goal

pub in_binds-loop-i-init : goal.in_binds-loop-i-init
in_binds-loop-i-init t c =
    refl

pub in_binds-returns-then-branch : goal.in_binds-returns-then-branch
in_binds-returns-then-branch t c =
    list-found bind_phrase c.args.sought.now c.args.binds.now c.loop-i.i c.index-binds-i.result _ c.args.scope.now c.loop-i.scope _ c.loop-i-test.true c.index-binds-i.is c.if-branch.true c.loop-i.invariant c.in_ok-in_bind.ensures

pub in_binds-loop-i-preserved : goal.in_binds-loop-i-preserved
in_binds-loop-i-preserved t c =
    c.in_ok-in_bind.ensures.same c.if-branch.false ∙ c.loop-i.invariant

pub in_binds-returns : goal.in_binds-returns
in_binds-returns t c =
    none-found c.args.scope.now c.loop-i.scope c.loop-i.invariant

pub in_clauses-loop-i-init : goal.in_clauses-loop-i-init
in_clauses-loop-i-init t c =
    refl

pub in_clauses-returns-then-branch : goal.in_clauses-returns-then-branch
in_clauses-returns-then-branch t c =
    list-found clause_phrase c.args.sought.now c.args.clauses.now c.loop-i.i c.index-clauses-i.result _ c.args.scope.now c.loop-i.scope _ c.loop-i-test.true c.index-clauses-i.is c.if-branch.true c.loop-i.invariant c.in_ok-in_clause.ensures

pub in_clauses-loop-i-preserved : goal.in_clauses-loop-i-preserved
in_clauses-loop-i-preserved t c =
    c.in_ok-in_clause.ensures.same c.if-branch.false ∙ c.loop-i.invariant

pub in_clauses-returns : goal.in_clauses-returns
in_clauses-returns t c =
    none-found c.args.scope.now c.loop-i.scope c.loop-i.invariant

pub in_exps-loop-i-init : goal.in_exps-loop-i-init
in_exps-loop-i-init t c =
    refl

pub in_exps-returns-then-branch : goal.in_exps-returns-then-branch
in_exps-returns-then-branch t c =
    list-found exp_phrase c.args.sought.now c.args.exps.now c.loop-i.i c.index-exps-i.result _ c.args.scope.now c.loop-i.scope _ c.loop-i-test.true c.index-exps-i.is c.if-branch.true c.loop-i.invariant c.in_ok-in_exp.ensures

pub in_exps-loop-i-preserved : goal.in_exps-loop-i-preserved
in_exps-loop-i-preserved t c =
    c.in_ok-in_exp.ensures.same c.if-branch.false ∙ c.loop-i.invariant

pub in_exps-returns : goal.in_exps-returns
in_exps-returns t c =
    none-found c.args.scope.now c.loop-i.scope c.loop-i.invariant

pub in_rules-loop-i-init : goal.in_rules-loop-i-init
in_rules-loop-i-init t c =
    refl

pub in_rules-returns-then-branch : goal.in_rules-returns-then-branch
in_rules-returns-then-branch t c =
    list-found rule_phrase c.args.sought.now c.args.rules.now c.loop-i.i c.index-rules-i.result _ c.args.scope.now c.loop-i.scope _ c.loop-i-test.true c.index-rules-i.is c.if-branch.true c.loop-i.invariant c.in_ok-in_rule.ensures

pub in_rules-loop-i-preserved : goal.in_rules-loop-i-preserved
in_rules-loop-i-preserved t c =
    c.in_ok-in_rule.ensures.same c.if-branch.false ∙ c.loop-i.invariant

pub in_rules-returns : goal.in_rules-returns
in_rules-returns t c =
    none-found c.args.scope.now c.loop-i.scope c.loop-i.invariant

pub in_fields-loop-i-init : goal.in_fields-loop-i-init
in_fields-loop-i-init t c =
    refl

pub in_fields-returns-then-branch : goal.in_fields-returns-then-branch
in_fields-returns-then-branch t c =
    list-found (λ (f : ExpField). exp_phrase f.exp) c.args.sought.now c.args.fields.now c.loop-i.i c.index-fields-i.result _ c.args.scope.now c.loop-i.scope _ c.loop-i-test.true c.index-fields-i.is c.if-branch.true c.loop-i.invariant c.in_ok-in_exp.ensures

pub in_fields-loop-i-preserved : goal.in_fields-loop-i-preserved
in_fields-loop-i-preserved t c =
    c.in_ok-in_exp.ensures.same c.if-branch.false ∙ c.loop-i.invariant

pub in_fields-returns : goal.in_fields-returns
in_fields-returns t c =
    none-found c.args.scope.now c.loop-i.scope c.loop-i.invariant

pub in_functions-loop-i-init : goal.in_functions-loop-i-init
in_functions-loop-i-init t c =
    refl

pub in_functions-returns-then-branch : goal.in_functions-returns-then-branch
in_functions-returns-then-branch t c =
    function-found c.args.sought.now c.args.functions.now c.loop-i.i c.index-functions-i.result c.deref.result.now _ c.args.scope.now c.loop-i.scope _ c.loop-i-test.true c.index-functions-i.is c.if-branch.true c.loop-i.invariant c.deref.ensures.value c.in_ok-in_clauses.ensures

pub in_functions-loop-i-preserved : goal.in_functions-loop-i-preserved
in_functions-loop-i-preserved t c =
    c.in_ok-in_clauses.ensures.same c.if-branch.false ∙ c.loop-i.invariant

pub in_functions-returns : goal.in_functions-returns
in_functions-returns t c =
    none-found c.args.scope.now c.loop-i.scope c.loop-i.invariant

pub in_parts-loop-i-init : goal.in_parts-loop-i-init
in_parts-loop-i-init t c =
    refl

pub in_parts-returns-then-in_joint : goal.in_parts-returns-then-in_joint
in_parts-returns-then-in_joint t c =
    joint-found c.args.sought.now c.args.parts.now c.loop-i.i c.index-parts-i.result c.in_joint.result c.args.scope.now c.loop-i.scope _ c.loop-i-test.true c.index-parts-i.is c.if-in_joint.true c.loop-i.invariant c.in_joint.ensures

pub in_parts-returns-then-branch : goal.in_parts-returns-then-branch
in_parts-returns-then-branch t c =
    part-found c.args.sought.now c.args.parts.now c.loop-i.i c.index-parts-i.result _ c.args.scope.now c.loop-i.scope _ c.loop-i-test.true c.index-parts-i.is c.if-branch.true c.loop-i.invariant c.in_ok-in_exp.ensures

pub in_parts-loop-i-preserved : goal.in_parts-loop-i-preserved
in_parts-loop-i-preserved t c =
    c.in_ok-in_exp.ensures.same c.if-branch.false ∙ c.loop-i.invariant

pub in_parts-returns : goal.in_parts-returns
in_parts-returns t c =
    none-found c.args.scope.now c.loop-i.scope c.loop-i.invariant

pub in_decs-loop-i-init : goal.in_decs-loop-i-init
in_decs-loop-i-init t c =
    ran-none c.args.decs.now c.args.scope.now

pub in_decs-returns-then-branch : goal.in_decs-returns-then-branch
in_decs-returns-then-branch t c =
    ran-found c.args.sought.now c.args.decs.now c.loop-i.i c.index-decs-i.result _ c.args.scope.now c.loop-i.scope _ c.loop-i-test.true c.index-decs-i.is c.if-branch.true c.loop-i.invariant c.in_ok-in_dec.ensures

pub in_decs-loop-i-preserved : goal.in_decs-loop-i-preserved
in_decs-loop-i-preserved t c =
    ran-next c.args.decs.now c.loop-i.i c.index-decs-i.result _ c.args.scope.now c.loop-i.scope _ c.loop-i-test.true c.index-decs-i.is c.if-branch.false c.loop-i.invariant c.in_ok-in_dec.ensures

pub in_decs-returns : goal.in_decs-returns
in_decs-returns t c =
    ran-all c.args.decs.now c.loop-i.i c.args.scope.now c.loop-i.scope c.loop-i-test.false c.loop-i.invariant

pub in_bind-returns-then-in_pat : goal.in_bind-returns-then-in_pat
in_bind-returns-then-in_pat t c =
    looked-true _ c.args.scope.now _ _ c.if-in_pat.true refl (λ e u. bind-in-pat c.args.sought.now e c.args.bind.now u) c.in_pat.ensures

pub in_bind-returns : goal.in_bind-returns
in_bind-returns t c =
    walked-if c.in_exp.result c.args.scope.now _ _ refl (λ e u. bind-in-exp c.args.sought.now e c.args.bind.now u) c.in_exp.ensures

pub in_rule-returns-then-in_pat : goal.in_rule-returns-then-in_pat
in_rule-returns-then-in_pat t c =
    looked-true _ c.args.scope.now _ _ c.if-in_pat.true refl (λ e u. rule-in-pat c.args.sought.now e c.args.rule.now u) c.in_pat.ensures

pub in_rule-returns-then-branch-2 : goal.in_rule-returns-then-branch-2
in_rule-returns-then-branch-2 t c =
    inside-found (λ e. pat_names e (pat_of c.args.rule.now.pat)) _ c.args.scope.now _ _ c.if-branch-2.true c.in_ok-bind_pat.ensures (λ e u. rule-in-exp c.args.sought.now e c.args.rule.now u) c.in_ok-in_exp.ensures

pub in_clause-returns-then-in_pats : goal.in_clause-returns-then-in_pats
in_clause-returns-then-in_pats t c =
    looked-true _ c.args.scope.now _ _ c.if-in_pats.true refl (λ e u. clause-in-pats c.args.sought.now e c.args.clause.now (one-or-tuple c.args.sought.now e c.args.clause.now.place c.args.clause.now.pats.items (subst (λ l. AnyAt c.args.sought.now (all_in e (map pat_phrase l))) c.deref.ensures.value u))) c.in_pats.ensures

pub in_clause-returns-then-branch-2 : goal.in_clause-returns-then-branch-2
in_clause-returns-then-branch-2 t c =
    inside-found (λ e. pat_names e (one_or_tuple_pat c.args.clause.now.place (map pat_of c.args.clause.now.pats.items))) _ c.args.scope.now _ _ c.if-branch-2.true (brought-named (λ e. ap (λ (l : List Pat). pat_names e (one_or_tuple_pat c.args.clause.now.place (map pat_of l))) c.deref-2.ensures.value) (c.in_ok-bind_pats.ensures c.args.clause.now.place)) (λ e u. clause-in-exp c.args.sought.now e c.args.clause.now u) c.in_ok-in_exp.ensures

pub in_clause-returns : goal.in_clause-returns
in_clause-returns t c =
    inside-left (λ e. pat_names e (one_or_tuple_pat c.args.clause.now.place (map pat_of c.args.clause.now.pats.items))) _ c.len-before.result c.args.scope.now _ _ _ c.if-branch-2.false c.len-before.ensures (brought-named (λ e. ap (λ (l : List Pat). pat_names e (one_or_tuple_pat c.args.clause.now.place (map pat_of l))) c.deref-2.ensures.value) (c.in_ok-bind_pats.ensures c.args.clause.now.place)) c.in_ok-in_exp.ensures c.leave.ensures

pub in_exp-returns-in-Record : goal.in_exp-returns-in-Record
in_exp-returns-in-Record t c =
    walked-if c.in_fields.result c.args.scope.now _ _ refl (λ e u. exp-Record c.args.sought.now e c.args.exp.now c.in-Record.field-0 c.in-Record.fields c.in-Record.is (subst (λ l. AnyAt c.args.sought.now (all_in e (map (λ (f : ExpField). exp_phrase f.exp) l))) c.deref.ensures.value u)) c.in_fields.ensures

pub in_exp-returns-in-Tuple : goal.in_exp-returns-in-Tuple
in_exp-returns-in-Tuple t c =
    walked-if c.in_exps.result c.args.scope.now _ _ refl (λ e u. exp-Tuple c.args.sought.now e c.args.exp.now c.in-Tuple.field-0 c.in-Tuple.parts c.in-Tuple.is (subst (λ l. AnyAt c.args.sought.now (all_in e (map exp_phrase l))) c.deref-in-Tuple.ensures.value u)) c.in_exps.ensures

pub in_exp-returns-in-List : goal.in_exp-returns-in-List
in_exp-returns-in-List t c =
    walked-if c.in_exps-in-List.result c.args.scope.now _ _ refl (λ e u. exp-List c.args.sought.now e c.args.exp.now c.in-List.field-0 c.in-List.elements c.in-List.is (subst (λ l. AnyAt c.args.sought.now (all_in e (map exp_phrase l))) c.deref-in-List.ensures.value u)) c.in_exps-in-List.ensures

pub in_exp-returns-in-Fn : goal.in_exp-returns-in-Fn
in_exp-returns-in-Fn t c =
    walked-if c.in_rules-in-Fn.result c.args.scope.now _ _ refl (λ e u. exp-Fn c.args.sought.now e c.args.exp.now c.in-Fn.field-0 c.in-Fn.rules c.in-Fn.is (subst (λ l. AnyAt c.args.sought.now (all_in e (map rule_phrase l))) c.deref-in-Fn.ensures.value u)) c.in_rules-in-Fn.ensures

pub in_exp-returns-then-branch : goal.in_exp-returns-then-branch
in_exp-returns-then-branch t c =
    walked-for _ c.args.scope.now _ _ refl (λ e u. exp-Sequence-first c.args.sought.now e c.args.exp.now c.in-Sequence.field-0 c.in-Sequence.first c.in-Sequence.rest c.in-Sequence.is (subst (λ z. FoundAt c.args.sought.now e (exp_phrase z)) c.deref-in-Sequence.ensures u)) c.in_ok-in_exp-in-Sequence.ensures

pub in_exp-returns-then-branch-4 : goal.in_exp-returns-then-branch-4
in_exp-returns-then-branch-4 t c =
    walked-for _ c.args.scope.now _ _ refl (λ e u. exp-Apply-first c.args.sought.now e c.args.exp.now c.in-Apply.field-0 c.in-Apply.function c.in-Apply.arguments c.in-Apply.is (subst (λ z. FoundAt c.args.sought.now e (exp_phrase z)) c.deref-in-Apply.ensures u)) c.in_ok-in_exp-in-Apply.ensures

pub in_exp-returns-then-branch-5 : goal.in_exp-returns-then-branch-5
in_exp-returns-then-branch-5 t c =
    walked-for _ c.args.scope.now _ _ refl (λ e u. exp-Chain-first c.args.sought.now e c.args.exp.now c.in-Chain.field-0 c.in-Chain.field-1 c.in-Chain.first c.in-Chain.parts c.in-Chain.is (subst (λ z. FoundAt c.args.sought.now e (exp_phrase z)) c.deref-in-Chain.ensures u)) c.in_ok-in_exp-in-Chain.ensures

pub in_exp-returns-then-branch-6 : goal.in_exp-returns-then-branch-6
in_exp-returns-then-branch-6 t c =
    walked-for _ c.args.scope.now _ _ refl (λ e u. exp-Handle-body c.args.sought.now e c.args.exp.now c.in-Handle.field-0 c.in-Handle.body c.in-Handle.rules c.in-Handle.is (subst (λ z. FoundAt c.args.sought.now e (exp_phrase z)) c.deref-in-Handle.ensures u)) c.in_ok-in_exp-in-Handle.ensures

pub in_exp-returns-in_ok-in_exps-in-Sequence : goal.in_exp-returns-in_ok-in_exps-in-Sequence
in_exp-returns-in_ok-in_exps-in-Sequence t c =
    walked-for _ c.args.scope.now _ _ (c.in_ok-in_exp-in-Sequence.ensures.same c.if-branch.false) (λ e u. exp-Sequence-rest c.args.sought.now e c.args.exp.now c.in-Sequence.field-0 c.in-Sequence.first c.in-Sequence.rest c.in-Sequence.is (subst (λ l. AnyAt c.args.sought.now (all_in e (map exp_phrase l))) c.deref-else-branch.ensures.value u)) c.in_ok-in_exps-in-Sequence.ensures

pub in_exp-returns-in_ok-in_exps-in-Apply : goal.in_exp-returns-in_ok-in_exps-in-Apply
in_exp-returns-in_ok-in_exps-in-Apply t c =
    walked-for _ c.args.scope.now _ _ (c.in_ok-in_exp-in-Apply.ensures.same c.if-branch-4.false) (λ e u. exp-Apply-rest c.args.sought.now e c.args.exp.now c.in-Apply.field-0 c.in-Apply.function c.in-Apply.arguments c.in-Apply.is (subst (λ l. AnyAt c.args.sought.now (all_in e (map exp_phrase l))) c.deref-else-branch-4.ensures.value u)) c.in_ok-in_exps-in-Apply.ensures

pub in_exp-returns-in_ok-in_rules-in-Handle : goal.in_exp-returns-in_ok-in_rules-in-Handle
in_exp-returns-in_ok-in_rules-in-Handle t c =
    walked-for _ c.args.scope.now _ _ (c.in_ok-in_exp-in-Handle.ensures.same c.if-branch-6.false) (λ e u. exp-Handle-rules c.args.sought.now e c.args.exp.now c.in-Handle.field-0 c.in-Handle.body c.in-Handle.rules c.in-Handle.is (subst (λ l. AnyAt c.args.sought.now (all_in e (map rule_phrase l))) c.deref-else-branch-6.ensures.value u)) c.in_ok-in_rules-in-Handle.ensures

pub in_exp-returns-in_ok-in_parts-in-Chain : goal.in_exp-returns-in_ok-in_parts-in-Chain
in_exp-returns-in_ok-in_parts-in-Chain t c =
    walked-for _ c.args.scope.now _ _ (c.in_ok-in_exp-in-Chain.ensures.same c.if-branch-5.false) (λ e u. chain-parts c.args.sought.now e c.args.exp.now c.in-Chain.field-0 c.in-Chain.field-1 c.in-Chain.first c.in-Chain.parts c.in-Chain.is (subst (λ l. InParts c.args.sought.now e l) c.deref-else-branch-5.ensures.value u)) c.in_ok-in_parts-in-Chain.ensures

pub in_exp-returns-then-branch-2 : goal.in_exp-returns-then-branch-2
in_exp-returns-then-branch-2 t c =
    found-in-decs _ c.args.scope.now _ _ c.if-branch-2.true (λ e u. exp-Let-decs c.args.sought.now e c.args.exp.now c.in-Let.field-0 c.in-Let.decs c.in-Let.body c.in-Let.is (subst (λ (l : List Dec). AnyAt c.args.sought.now (decs_in e (decs_of (map dec_of l)))) c.deref-in-Let.ensures.value u)) c.in_ok-in_decs-in-Let.ensures

pub in_exp-returns-then-branch-3 : goal.in_exp-returns-then-branch-3
in_exp-returns-then-branch-3 t c =
    inside-found (run_names c.in-Let.decs.items) _ c.args.scope.now _ _ c.if-branch-3.true (brought-named (λ e. ap (λ (l : List Dec). run_names l e) c.deref-in-Let.ensures.value) (c.in_ok-in_decs-in-Let.ensures.brought c.if-branch-2.false)) (λ e u. exp-Let-body c.args.sought.now e c.args.exp.now c.in-Let.field-0 c.in-Let.decs c.in-Let.body c.in-Let.is (subst (λ z. FoundAt c.args.sought.now (plus e (run_names c.in-Let.decs.items e)) (exp_phrase z)) c.deref-in-Let-2.ensures u)) c.in_ok-in_exp-in-Let.ensures

pub in_exp-returns-then-in_ty : goal.in_exp-returns-then-in_ty
in_exp-returns-then-in_ty t c =
    looked _ c.args.scope.now (λ e u. exp-Typed-ty c.args.sought.now e c.args.exp.now c.in-Typed.field-0 c.in-Typed.body c.in-Typed.ty c.in-Typed.is u) c.in_ty.ensures

pub in_exp-returns-in_ok-in_exp-in-Typed : goal.in_exp-returns-in_ok-in_exp-in-Typed
in_exp-returns-in_ok-in_exp-in-Typed t c =
    walked-for _ c.args.scope.now _ _ refl (λ e u. exp-Typed-body c.args.sought.now e c.args.exp.now c.in-Typed.field-0 c.in-Typed.body c.in-Typed.ty c.in-Typed.is (subst (λ z. FoundAt c.args.sought.now e (exp_phrase z)) c.deref-else-in_ty.ensures u)) c.in_ok-in_exp-in-Typed.ensures

pub in_exp-returns-in-Raise : goal.in_exp-returns-in-Raise
in_exp-returns-in-Raise t c =
    walked-if c.in_exp-in-Raise.result c.args.scope.now _ _ refl (λ e u. exp-Raise c.args.sought.now e c.args.exp.now c.in-Raise.field-0 c.in-Raise.body c.in-Raise.is (subst (λ z. FoundAt c.args.sought.now e (exp_phrase z)) c.deref-in-Raise.ensures u)) c.in_exp-in-Raise.ensures

pub in_exp-returns-then-is_at : goal.in_exp-returns-then-is_at
in_exp-returns-then-is_at t c =
    looked _ c.args.scope.now (λ e u. exp-Vid c.args.sought.now e c.args.exp.now c.in-Vid.at c.in-Vid.long c.in-Vid.is u) (λ h e k. own-value c.args.sought.now e c.in-Vid.at (long_vid_of c.in-Vid.long) (c.is_at.ensures c.if-is_at.true) (c.is_unbound_value.ensures h e k))

pub in_dec-returns-then-branch-2 : goal.in_dec-returns-then-branch-2
in_dec-returns-then-branch-2 t c =
    declared-true _ c.args.scope.now _ _ c.if-branch-2.true refl (λ e u. dec-Val-binds c.args.sought.now e c.args.dec.now c.in-Val.at c.in-Val.field-1 c.in-Val.binds c.in-Val.recs c.in-Val.is (subst (λ l. AnyAt c.args.sought.now (all_in e (map bind_phrase l))) c.deref-in-Val-2.ensures.value u)) c.in_ok-in_binds-in-Val.ensures

pub in_dec-returns-then-branch-3 : goal.in_dec-returns-then-branch-3
in_dec-returns-then-branch-3 t c =
    declared-from c.args.scope.now _ _ (c.in_ok-in_binds-in-Val.ensures.same c.if-branch-2.false) (declared-inside (λ e. rec_names (binds_of (map bind_of c.in-Val.recs.items))) _ c.in_binds.new.scope _ _ c.if-branch-3.true (brought-named (λ e. ap (λ (l : List Bind). rec_names (binds_of (map bind_of l))) c.deref-in-Val-4.ensures.value) c.in_ok-opened-in-Val.ensures.brought) (λ e u. dec-Val-recs c.args.sought.now e c.args.dec.now c.in-Val.at c.in-Val.field-1 c.in-Val.binds c.in-Val.recs c.in-Val.is (subst (λ l. AnyAt c.args.sought.now (all_in (plus e (rec_names (binds_of (map bind_of c.in-Val.recs.items)))) (map bind_phrase l))) c.deref-in-Val-5.ensures.value u)) c.in_ok-in_binds-in-Val-2.ensures)

pub in_dec-returns-in_ok-close_val-in-Val : goal.in_dec-returns-in_ok-close_val-in-Val
in_dec-returns-in_ok-close_val-in-Val t c =
    val-closed c.args.scope.now c.in_binds.new.scope _ _ _ c.in_ok-opened-in-Val.opened.vids.items c.in_ok-opened-in-Val.opened.before (binds_of (map bind_of c.in-Val.binds.items)) (binds_of (map bind_of c.in-Val.recs.items)) (c.in_ok-in_binds-in-Val.ensures.same c.if-branch-2.false) (brought-named (λ e. ap (λ (l : List Bind). rec_names (binds_of (map bind_of l))) c.deref-in-Val-4.ensures.value) c.in_ok-opened-in-Val.ensures.brought) (c.in_ok-in_binds-in-Val-2.ensures.same c.if-branch-3.false) c.in_ok-opened-in-Val.ensures.before (λ e k. c.in_ok-opened-in-Val.ensures.vids e k ∙ ap (λ (l : List Bind). filter is_written (binds_vids e (binds_of (map bind_of l)))) c.deref-in-Val-3.ensures.value) (closes-named (ap (λ (l : List Bind). binds_of (map bind_of l)) c.deref-in-Val-6.ensures.value) c.in_ok-close_val-in-Val.ensures) (λ e. names-Val e c.args.dec.now c.in-Val.at c.in-Val.field-1 c.in-Val.binds c.in-Val.recs c.in-Val.is)

pub in_dec-returns-in-Fun : goal.in_dec-returns-in-Fun
in_dec-returns-in-Fun t c =
    declared-if c.in_fun.result c.args.scope.now _
    (λ e u. fun-parts c.args.sought.now e c.args.dec.now c.in-Fun.at c.in-Fun.field-1 c.in-Fun.functions c.in-Fun.is c.deref-in-Fun.result.now c.deref-in-Fun.ensures.value u)
    (λ e. ap fun_names c.deref-in-Fun.ensures.value ∙ sym (nothing-plus (fun_names c.in-Fun.functions.items)) ∙ sym (names-Fun e c.args.dec.now c.in-Fun.at c.in-Fun.field-1 c.in-Fun.functions c.in-Fun.is))
    c.in_fun.ensures

pub in_dec-returns-in-Abbreviation : goal.in_dec-returns-in-Abbreviation
in_dec-returns-in-Abbreviation t c =
    declared-if c.in_type_dec.result c.args.scope.now _ (λ e u. dec-Abbreviation c.args.sought.now e c.args.dec.now c.in-Abbreviation.field-0 c.in-Abbreviation.binds c.in-Abbreviation.is (subst (λ l. AnyAt c.args.sought.now (all_in e (map type_phrase l))) c.deref-in-Abbreviation.ensures.value u)) (λ e. ap (λ l. types_env (map type_bind_of l)) c.deref-in-Abbreviation.ensures.value ∙ sym (names-Abbreviation e c.args.dec.now c.in-Abbreviation.field-0 c.in-Abbreviation.binds c.in-Abbreviation.is)) c.in_type_dec.ensures

pub in_dec-returns-in-Datatype : goal.in_dec-returns-in-Datatype
in_dec-returns-in-Datatype t c =
    declared-if c.in_datatype.result c.args.scope.now _ (λ e u. dec-Datatype c.args.sought.now e c.args.dec.now c.in-Datatype.field-0 c.in-Datatype.binds c.in-Datatype.is (plain-datatype c.args.sought.now e c.in-Datatype.binds.items (subst (λ l. AnyAt c.args.sought.now (datatype_scopes [] e l)) c.deref-in-Datatype.ensures.value u))) (λ e. ap (λ l. datatypes_env (expanded [] l)) c.deref-in-Datatype.ensures.value ∙ datatypes-expanded [] (map data_bind_of c.in-Datatype.binds.items) ∙ sym (names-Datatype e c.args.dec.now c.in-Datatype.field-0 c.in-Datatype.binds c.in-Datatype.is)) c.in_datatype.ensures

pub in_dec-returns-in-Withtype : goal.in_dec-returns-in-Withtype
in_dec-returns-in-Withtype t c =
    declared-if c.in_withtype.result c.args.scope.now _ (λ e u. withtype-parts c.args.sought.now e c.args.dec.now c.in-Withtype.field-0 c.in-Withtype.binds c.in-Withtype.types c.in-Withtype.is (subst (λ l. AnyAt c.args.sought.now (withtype_scopes e l c.in-Withtype.types.items)) c.deref-in-Withtype.ensures.value (subst (λ l. AnyAt c.args.sought.now (withtype_scopes e c.deref-in-Withtype.result.now l)) c.deref-in-Withtype-2.ensures.value u))) (λ e. ap₂ (λ ds bs. plus (datatypes_env (expanded (map type_bind_of bs) ds)) (types_env (map type_bind_of bs))) c.deref-in-Withtype.ensures.value c.deref-in-Withtype-2.ensures.value ∙ sym (names-Withtype e c.args.dec.now c.in-Withtype.field-0 c.in-Withtype.binds c.in-Withtype.types c.in-Withtype.is)) c.in_withtype.ensures

pub in_dec-returns-in-Replicate : goal.in_dec-returns-in-Replicate
in_dec-returns-in-Replicate t c =
    declared-if c.in_replicate.result c.args.scope.now _ (λ e u. dec-Replicate c.args.sought.now e c.args.dec.now c.in-Replicate.field-0 c.in-Replicate.name c.in-Replicate.long c.in-Replicate.is u) (λ e. sym (names-Replicate e c.args.dec.now c.in-Replicate.field-0 c.in-Replicate.name c.in-Replicate.long c.in-Replicate.is)) c.in_replicate.ensures

pub in_dec-returns-in-Exception : goal.in_dec-returns-in-Exception
in_dec-returns-in-Exception t c =
    declared-if c.in_exception.result c.args.scope.now _ (λ e u. dec-Exception c.args.sought.now e c.args.dec.now c.in-Exception.field-0 c.in-Exception.binds c.in-Exception.is (subst (λ l. AnyAt c.args.sought.now (all_in e (map exn_phrase l))) c.deref-in-Exception.ensures.value u)) (λ e. ap (λ l. exns_names (map ex_bind_of l)) c.deref-in-Exception.ensures.value ∙ sym (names-Exception e c.args.dec.now c.in-Exception.field-0 c.in-Exception.binds c.in-Exception.is)) c.in_exception.ensures

pub in_dec-returns-in-Open : goal.in_dec-returns-in-Open
in_dec-returns-in-Open t c =
    declared-if c.in_open.result c.args.scope.now _ (λ e u. dec-Open-own c.args.sought.now e c.args.dec.now c.in-Open.field-0 c.in-Open.longs c.in-Open.is (subst (λ l. At c.args.sought.now (structures_unbound e (map long_id_at_of l))) c.deref-in-Open.ensures.value u)) (λ e. ap (λ l. unwrap_or (opened e (map long_id_at_of l)) nothing) c.deref-in-Open.ensures.value ∙ sym (names-Open e c.args.dec.now c.in-Open.field-0 c.in-Open.longs c.in-Open.is)) c.in_open.ensures

pub in_dec-returns-in-Declarations : goal.in_dec-returns-in-Declarations
in_dec-returns-in-Declarations t c =
    declared-if c.in_decs-in-Declarations.result c.args.scope.now _ (λ e u. dec-Declarations c.args.sought.now e c.args.dec.now c.in-Declarations.field-0 c.in-Declarations.decs c.in-Declarations.is (subst (λ (l : List Dec). AnyAt c.args.sought.now (decs_in e (decs_of (map dec_of l)))) c.deref-in-Declarations.ensures.value u)) (λ e. ap (λ (l : List Dec). run_names l e) c.deref-in-Declarations.ensures.value ∙ sym (names-Declarations e c.args.dec.now c.in-Declarations.field-0 c.in-Declarations.decs c.in-Declarations.is)) c.in_decs-in-Declarations.ensures

pub in_dec-returns-then-branch-4 : goal.in_dec-returns-then-branch-4
in_dec-returns-then-branch-4 t c =
    first-found _ c.args.scope.now _ _ c.if-branch-4.true (λ e u. dec-Local-decs c.args.sought.now e c.args.dec.now c.in-Local.field-0 c.in-Local.decs c.in-Local.shown c.in-Local.is (subst (λ (l : List Dec). AnyAt c.args.sought.now (decs_in e (decs_of (map dec_of l)))) c.deref-in-Local.ensures.value u)) c.in_ok-in_decs-in-Local.ensures

pub in_dec-returns-then-branch-5 : goal.in_dec-returns-then-branch-5
in_dec-returns-then-branch-5 t c =
    second-found _ c.args.scope.now _ _ (run_names c.in-Local.decs.items) c.if-branch-5.true (brought-named (λ e. ap (λ (l : List Dec). run_names l e) c.deref-in-Local.ensures.value) (c.in_ok-in_decs-in-Local.ensures.brought c.if-branch-4.false)) (λ e u. dec-Local-shown c.args.sought.now e c.args.dec.now c.in-Local.field-0 c.in-Local.decs c.in-Local.shown c.in-Local.is (subst (λ (l : List Dec). AnyAt c.args.sought.now (decs_in (plus e ((run_names c.in-Local.decs.items) e)) (decs_of (map dec_of l)))) c.deref-in-Local-2.ensures.value u)) c.in_ok-in_decs-in-Local-2.ensures

pub in_dec-returns-in_ok-leave_between-in-Local : goal.in_dec-returns-in_ok-leave_between-in-Local
in_dec-returns-in_ok-leave_between-in-Local t c =
    local-kept (run_names c.in-Local.decs.items) (run_names c.in-Local.shown.items) c.len-from.result c.len-to.result c.args.scope.now _ _ _ (brought-named (λ e. ap (λ (l : List Dec). run_names l e) c.deref-in-Local.ensures.value) (c.in_ok-in_decs-in-Local.ensures.brought c.if-branch-4.false)) (brought-named (λ e. ap (λ (l : List Dec). run_names l e) c.deref-in-Local-2.ensures.value) (c.in_ok-in_decs-in-Local-2.ensures.brought c.if-branch-5.false)) c.len-from.ensures c.len-to.ensures c.in_ok-leave_between-in-Local.ensures (λ e. names-Local e c.args.dec.now c.in-Local.field-0 c.in-Local.decs c.in-Local.shown c.in-Local.is)

pub in_rule-returns-then-branch : goal.in_rule-returns-then-branch
in_rule-returns-then-branch t c = looked-true _ c.args.scope.now _ _ c.if-branch.true refl (λ e u. u) c.in_ok-is_rule_twice.ensures

pub in_clause-returns-then-branch : goal.in_clause-returns-then-branch
in_clause-returns-then-branch t c = looked-true _ c.args.scope.now _ _ c.if-branch.true refl (λ e u. u) c.in_ok-is_clause_twice.ensures

pub in_dec-returns-then-branch : goal.in_dec-returns-then-branch
in_dec-returns-then-branch t c =
    seen-true _ c.args.scope.now _ _ c.if-branch.true refl
    (λ e u. dec-Val-own c.args.sought.now e c.args.dec.now c.in-Val.at c.in-Val.field-1 c.in-Val.binds c.in-Val.recs c.in-Val.is
    (subst (λ (l : List Bind). FoundAt c.args.sought.now e (val_phrase c.in-Val.at c.in-Val.field-1.place c.in-Val.field-1.tyvars.items l c.in-Val.recs.items)) c.deref.ensures.value
    (subst (λ (l : List Bind). FoundAt c.args.sought.now e (val_phrase c.in-Val.at c.in-Val.field-1.place c.in-Val.field-1.tyvars.items c.deref.result.now l)) c.deref-in-Val.ensures.value u)))
    (λ h e k. c.in_ok-is_val_twice-in-Val.ensures h e k c.in-Val.field-1.place c.in-Val.field-1.tyvars.items)

pub in_fun-returns-then-branch : goal.in_fun-returns-then-branch
in_fun-returns-then-branch t c =
    seen-true _ c.args.scope.now _ _ c.if-branch.true refl (λ e u. inl u) (λ h e k. c.in_ok-is_fun_twice.ensures h e)

pub in_fun-returns : goal.in_fun-returns
in_fun-returns t c =
    functions-if (λ e. AnyAt c.args.sought.now (all_in e (map function_phrase c.args.functions.now))) (λ e. fun_names c.args.functions.now) c.in_functions.result c.args.scope.now _ _ c.in_ok-bind_functions.ensures (λ e u. inr u) (λ e. refl) c.in_functions.ensures
