use Rattle.std.proofs.Common.{ℕ, List, Bool, nat_eq, refl, ap, ap₂, subst, ◌++◌, ◌∙◌}
use Rattle.std.specs.Prelude.{flat_map, map}
use Rattle.core_rules.specs.Restrictions.{distinct, unless}
use Rattle.sml_tree.specs.BareTree.{no_binds}
use Rattle.sml_tree.specs.Derived.{function_binds}
use Rattle.sml_tree.specs.TreeOf.{bind_of, binds_of, function_of}
use Rattle.sml_tree.specs.declared.tree.Function.{out-Function}
use Rattle.restrictions.specs.Breaks.{scope_in}
use Rattle.restrictions.specs.declared.scope.Entered.{Entered}
use Rattle.sml_tree.specs.declared.tree.Clause.{Clause}
use Rattle.sml_tree.specs.declared.tree.Pat.{Pat}
use Rattle.restrictions.specs.Found.{Adds, Walks, names_in}
use Rattle.restrictions.specs.Nodes.{bind_places, clause_places, datatype_places, dec_places, exception_places, exp_places, field_places, function_places, named_types, part_places, pat_places, rec_places, rule_places, takes, ty_places, type_places, unless_once, withtype_places}
use Rattle.restrictions.proofs.DecNodes.{dec-Abbreviation, dec-Datatype, dec-Declarations, dec-Exception, dec-Fun, dec-Local, dec-Open, dec-Replicate, dec-Val, dec-Withtype}
use Rattle.restrictions.proofs.ExpNodes.{exp-Apply, exp-BuiltIn, exp-Chain, exp-Constant, exp-Fn, exp-Handle, exp-Let, exp-List, exp-Raise, exp-Record, exp-Sequence, exp-Tuple, exp-Typed, exp-Vid}
use Rattle.restrictions.proofs.Standing.{if-ok, if-ok-both, stand-are, stand-then}
use Rattle.restrictions.proofs.Walking.{goes-first, goes-last, goes-next, names-onto, walks-for, walks-found, walks-inside, walks-none, walks-then, walks-two}
use Rattle.restrictions.proofs.exps.+exps.Goals as goal

pub of_exps-loop-i-init : goal.of_exps-loop-i-init
of_exps-loop-i-init t c = goes-first exp_places c.args.exps.now c.args.walk.now

pub of_exps-loop-i-preserved : goal.of_exps-loop-i-preserved
of_exps-loop-i-preserved t c =
    goes-next exp_places c.args.exps.now c.loop-i.i c.index-exps-i.result c.args.walk.now c.loop-i.walk _ c.loop-i-test.true c.index-exps-i.is c.loop-i.invariant
    c.in_ok-of_exp.ensures

pub of_exps-returns : goal.of_exps-returns
of_exps-returns t c = goes-last exp_places c.args.exps.now c.loop-i.i c.args.walk.now c.loop-i.walk c.loop-i-test.false c.loop-i.invariant

pub of_fields-loop-i-init : goal.of_fields-loop-i-init
of_fields-loop-i-init t c = goes-first field_places c.args.fields.now c.args.walk.now

pub of_fields-loop-i-preserved : goal.of_fields-loop-i-preserved
of_fields-loop-i-preserved t c =
    goes-next field_places c.args.fields.now c.loop-i.i c.index-fields-i.result c.args.walk.now c.loop-i.walk _ c.loop-i-test.true c.index-fields-i.is c.loop-i.invariant
    c.in_ok-of_exp.ensures

pub of_fields-returns : goal.of_fields-returns
of_fields-returns t c = goes-last field_places c.args.fields.now c.loop-i.i c.args.walk.now c.loop-i.walk c.loop-i-test.false c.loop-i.invariant

pub of_parts-loop-i-init : goal.of_parts-loop-i-init
of_parts-loop-i-init t c = goes-first part_places c.args.parts.now c.args.walk.now

pub of_parts-loop-i-preserved : goal.of_parts-loop-i-preserved
of_parts-loop-i-preserved t c =
    goes-next part_places c.args.parts.now c.loop-i.i c.index-parts-i.result c.args.walk.now c.loop-i.walk _ c.loop-i-test.true c.index-parts-i.is c.loop-i.invariant
    c.in_ok-of_exp.ensures

pub of_parts-returns : goal.of_parts-returns
of_parts-returns t c = goes-last part_places c.args.parts.now c.loop-i.i c.args.walk.now c.loop-i.walk c.loop-i-test.false c.loop-i.invariant

pub of_rules-loop-i-init : goal.of_rules-loop-i-init
of_rules-loop-i-init t c = goes-first rule_places c.args.rules.now c.args.walk.now

pub of_rules-loop-i-preserved : goal.of_rules-loop-i-preserved
of_rules-loop-i-preserved t c =
    goes-next rule_places c.args.rules.now c.loop-i.i c.index-rules-i.result c.args.walk.now c.loop-i.walk _ c.loop-i-test.true c.index-rules-i.is c.loop-i.invariant
    (walks-then _ _ _ _ _ (walks-found _ _ _ refl c.in_ok-of_pat.ensures) c.in_ok-of_exp.ensures)

pub of_rules-returns : goal.of_rules-returns
of_rules-returns t c = goes-last rule_places c.args.rules.now c.loop-i.i c.args.walk.now c.loop-i.walk c.loop-i-test.false c.loop-i.invariant

pub of_binds-loop-i-init : goal.of_binds-loop-i-init
of_binds-loop-i-init t c = goes-first bind_places c.args.binds.now c.args.walk.now

pub of_binds-loop-i-preserved : goal.of_binds-loop-i-preserved
of_binds-loop-i-preserved t c =
    goes-next bind_places c.args.binds.now c.loop-i.i c.index-binds-i.result c.args.walk.now c.loop-i.walk _ c.loop-i-test.true c.index-binds-i.is c.loop-i.invariant
    (walks-then _ _ _ _ _ (walks-found _ _ _ refl c.in_ok-of_pat.ensures) c.in_ok-of_exp.ensures)

pub of_binds-returns : goal.of_binds-returns
of_binds-returns t c = goes-last bind_places c.args.binds.now c.loop-i.i c.args.walk.now c.loop-i.walk c.loop-i-test.false c.loop-i.invariant

pub of_recs-loop-i-init : goal.of_recs-loop-i-init
of_recs-loop-i-init t c = goes-first rec_places c.args.binds.now c.args.walk.now

pub of_recs-loop-i-preserved : goal.of_recs-loop-i-preserved
of_recs-loop-i-preserved t c =
    goes-next rec_places c.args.binds.now c.loop-i.i c.index-binds-i.result c.args.walk.now c.loop-i.walk _ c.loop-i-test.true c.index-binds-i.is c.loop-i.invariant
    (walks-then _ _ _ _ _ (walks-then _ _ _ _ _ (walks-found _ _ _ refl c.in_ok-of_pat.ensures) c.in_ok-of_exp.ensures) (walks-found _ _ _ refl c.in_ok-check_rec.ensures))

pub of_recs-returns : goal.of_recs-returns
of_recs-returns t c = goes-last rec_places c.args.binds.now c.loop-i.i c.args.walk.now c.loop-i.walk c.loop-i-test.false c.loop-i.invariant

pub of_clauses-loop-i-init : goal.of_clauses-loop-i-init
of_clauses-loop-i-init t c = goes-first clause_places c.args.clauses.now c.args.walk.now

pub of_clauses-loop-i-preserved : goal.of_clauses-loop-i-preserved
of_clauses-loop-i-preserved t c =
    goes-next clause_places c.args.clauses.now c.loop-i.i c.index-clauses-i.result c.args.walk.now c.loop-i.walk _ c.loop-i-test.true c.index-clauses-i.is c.loop-i.invariant
    (walks-then _ _ _ _ _ (walks-found _ _ _ refl (subst (λ (l : List Pat). Adds c.loop-i.walk.found.items c.of_all.new.found.items (flat_map pat_places l)) c.deref.ensures.value c.in_ok-of_all.ensures)) c.in_ok-of_exp.ensures)

pub of_clauses-returns : goal.of_clauses-returns
of_clauses-returns t c = goes-last clause_places c.args.clauses.now c.loop-i.i c.args.walk.now c.loop-i.walk c.loop-i-test.false c.loop-i.invariant

pub of_functions-loop-i-init : goal.of_functions-loop-i-init
of_functions-loop-i-init t c = goes-first function_places c.args.functions.now c.args.walk.now

pub of_functions-loop-i-preserved : goal.of_functions-loop-i-preserved
of_functions-loop-i-preserved t c =
    goes-next function_places c.args.functions.now c.loop-i.i c.index-functions-i.result c.args.walk.now c.loop-i.walk _ c.loop-i-test.true c.index-functions-i.is c.loop-i.invariant
    (walks-then _ _ _ _ _ (subst (λ (l : List Clause). Walks c.loop-i.walk c.of_clauses.new.walk (flat_map (clause_places (names_in c.loop-i.walk.around)) l)) c.deref.ensures.value c.in_ok-of_clauses.ensures)
    (walks-found _ _ _ refl (subst (λ (z : Bool). Adds c.of_clauses.new.walk.found.items c.find_unless.new.found.items (unless z (out-Function c.index-functions-i.result).place)) (c.take_something-takes.ensures ∙ ap takes c.deref-in-loop-i.ensures.value) c.in_ok-find_unless.ensures)))

pub of_functions-returns : goal.of_functions-returns
of_functions-returns t c = goes-last function_places c.args.functions.now c.loop-i.i c.args.walk.now c.loop-i.walk c.loop-i-test.false c.loop-i.invariant

pub of_decs-loop-i-init : goal.of_decs-loop-i-init
of_decs-loop-i-init t c = goes-first dec_places c.args.decs.now c.args.walk.now

pub of_decs-loop-i-preserved : goal.of_decs-loop-i-preserved
of_decs-loop-i-preserved t c =
    goes-next dec_places c.args.decs.now c.loop-i.i c.index-decs-i.result c.args.walk.now c.loop-i.walk _ c.loop-i-test.true c.index-decs-i.is c.loop-i.invariant
    c.in_ok-of_dec.ensures

pub of_decs-returns : goal.of_decs-returns
of_decs-returns t c = goes-last dec_places c.args.decs.now c.loop-i.i c.args.walk.now c.loop-i.walk c.loop-i-test.false c.loop-i.invariant

pub of_exp-returns-in-Constant : goal.of_exp-returns-in-Constant
of_exp-returns-in-Constant t c = walks-none c.args.walk.now _ (exp-Constant (names_in c.args.walk.now.around) c.args.exp.now c.in-Constant.field-0 c.in-Constant.field-1 c.in-Constant.is)

pub of_exp-returns-in-Vid : goal.of_exp-returns-in-Vid
of_exp-returns-in-Vid t c = walks-none c.args.walk.now _ (exp-Vid (names_in c.args.walk.now.around) c.args.exp.now c.in-Vid.field-0 c.in-Vid.field-1 c.in-Vid.is)

pub of_exp-returns-in-BuiltIn : goal.of_exp-returns-in-BuiltIn
of_exp-returns-in-BuiltIn t c = walks-none c.args.walk.now _ (exp-BuiltIn (names_in c.args.walk.now.around) c.args.exp.now c.in-BuiltIn.field-0 c.in-BuiltIn.field-1 c.in-BuiltIn.is)

pub of_exp-returns-in_ok-of_fields-in-Record : goal.of_exp-returns-in_ok-of_fields-in-Record
of_exp-returns-in_ok-of_fields-in-Record t c =
    if-ok c.check_fields.result
    (λ u k. walks-two c.args.walk.now _ _ _ _ _ c.in_ok-of_fields-in-Record.ensures (walks-found _ _ _ refl k) (λ e. stand-are _ _ (ap₂ (λ a b. a ++ unless_once b c.in-Record.place) (ap (flat_map (field_places (names_in c.args.walk.now.around))) c.deref.ensures.value) (ap (map (λ f. f.label)) c.deref-in-Record.ensures.value) ∙ exp-Record (names_in c.args.walk.now.around) c.args.exp.now c.in-Record.place c.in-Record.fields c.in-Record.is)))
    c.check_fields.ensures

pub of_exp-returns-in-Tuple : goal.of_exp-returns-in-Tuple
of_exp-returns-in-Tuple t c = if-ok c.of_exps.result (λ u k. walks-for c.args.walk.now _ _ _ (stand-are _ _ (ap (flat_map (exp_places (names_in c.args.walk.now.around))) c.deref-in-Tuple.ensures.value ∙ exp-Tuple (names_in c.args.walk.now.around) c.args.exp.now c.in-Tuple.field-0 c.in-Tuple.parts c.in-Tuple.is)) k) c.of_exps.ensures

pub of_exp-returns-in-List : goal.of_exp-returns-in-List
of_exp-returns-in-List t c = if-ok c.of_exps-in-List.result (λ u k. walks-for c.args.walk.now _ _ _ (stand-are _ _ (ap (flat_map (exp_places (names_in c.args.walk.now.around))) c.deref-in-List.ensures.value ∙ exp-List (names_in c.args.walk.now.around) c.args.exp.now c.in-List.field-0 c.in-List.elements c.in-List.is)) k) c.of_exps-in-List.ensures

pub of_exp-returns-in_ok-of_exp-in-Sequence : goal.of_exp-returns-in_ok-of_exp-in-Sequence
of_exp-returns-in_ok-of_exp-in-Sequence t c =
    if-ok c.of_exps-in-Sequence.result
    (λ u k. walks-two c.args.walk.now _ _ _ _ _ c.in_ok-of_exp-in-Sequence.ensures k (λ e. stand-then _ _ _ (stand-are _ _ (ap₂ (λ a b. a ++ b) (ap (exp_places (names_in c.args.walk.now.around)) c.deref-in-Sequence.ensures) (ap₂ (λ (a : List (ℕ × ℕ)) z. flat_map (exp_places (names_in a)) z) e c.deref-in-Sequence-2.ensures.value))) (exp-Sequence (names_in c.args.walk.now.around) c.args.exp.now c.in-Sequence.field-0 c.in-Sequence.first c.in-Sequence.rest c.in-Sequence.is)))
    c.of_exps-in-Sequence.ensures

pub of_exp-returns-in_ok-of_decs-in-Let : goal.of_exp-returns-in_ok-of_decs-in-Let
of_exp-returns-in_ok-of_decs-in-Let t c =
    if-ok c.of_exp-in-Let.result
    (λ u k. walks-two c.args.walk.now _ _ _ _ _ c.in_ok-of_decs-in-Let.ensures k (λ e. stand-are _ _ (ap₂ (λ a b. a ++ b) (ap (flat_map (dec_places (names_in c.args.walk.now.around))) c.deref-in-Let.ensures.value) (ap₂ (λ (a : List (ℕ × ℕ)) z. exp_places (names_in a) z) e c.deref-in-Let-2.ensures) ∙ exp-Let (names_in c.args.walk.now.around) c.args.exp.now c.in-Let.field-0 c.in-Let.decs c.in-Let.body c.in-Let.is)))
    c.of_exp-in-Let.ensures

pub of_exp-returns-in_ok-of_exp-in-Apply : goal.of_exp-returns-in_ok-of_exp-in-Apply
of_exp-returns-in_ok-of_exp-in-Apply t c =
    if-ok c.of_exps-in-Apply.result
    (λ u k. walks-two c.args.walk.now _ _ _ _ _ c.in_ok-of_exp-in-Apply.ensures k (λ e. stand-are _ _ (ap₂ (λ a b. a ++ b) (ap (exp_places (names_in c.args.walk.now.around)) c.deref-in-Apply.ensures) (ap₂ (λ (a : List (ℕ × ℕ)) z. flat_map (exp_places (names_in a)) z) e c.deref-in-Apply-2.ensures.value) ∙ exp-Apply (names_in c.args.walk.now.around) c.args.exp.now c.in-Apply.field-0 c.in-Apply.function c.in-Apply.arguments c.in-Apply.is)))
    c.of_exps-in-Apply.ensures

pub of_exp-returns-in_ok-of_exp-in-Chain : goal.of_exp-returns-in_ok-of_exp-in-Chain
of_exp-returns-in_ok-of_exp-in-Chain t c =
    if-ok c.of_parts.result
    (λ u k. walks-two c.args.walk.now _ _ _ _ _ c.in_ok-of_exp-in-Chain.ensures k (λ e. stand-then _ _ _ (stand-are _ _ (ap₂ (λ a b. a ++ b) (ap (exp_places (names_in c.args.walk.now.around)) c.deref-in-Chain.ensures) (ap₂ (λ (a : List (ℕ × ℕ)) z. flat_map (part_places (names_in a)) z) e c.deref-in-Chain-2.ensures.value))) (exp-Chain (names_in c.args.walk.now.around) c.args.exp.now c.in-Chain.field-0 c.in-Chain.field-1 c.in-Chain.first c.in-Chain.parts c.in-Chain.is)))
    c.of_parts.ensures

pub of_exp-returns-in_ok-of_exp-in-Typed : goal.of_exp-returns-in_ok-of_exp-in-Typed
of_exp-returns-in_ok-of_exp-in-Typed t c =
    if-ok c.of_ty.result
    (λ u k. walks-two c.args.walk.now _ _ _ _ _ c.in_ok-of_exp-in-Typed.ensures (walks-found _ _ _ refl k) (λ e. stand-are _ _ (ap (λ a. a ++ ty_places c.in-Typed.ty) (ap (exp_places (names_in c.args.walk.now.around)) c.deref-in-Typed.ensures) ∙ exp-Typed (names_in c.args.walk.now.around) c.args.exp.now c.in-Typed.field-0 c.in-Typed.body c.in-Typed.ty c.in-Typed.is)))
    c.of_ty.ensures

pub of_exp-returns-in_ok-of_exp-in-Handle : goal.of_exp-returns-in_ok-of_exp-in-Handle
of_exp-returns-in_ok-of_exp-in-Handle t c =
    if-ok c.of_rules.result
    (λ u k. walks-two c.args.walk.now _ _ _ _ _ c.in_ok-of_exp-in-Handle.ensures k (λ e. stand-are _ _ (ap₂ (λ a b. a ++ b) (ap (exp_places (names_in c.args.walk.now.around)) c.deref-in-Handle.ensures) (ap₂ (λ (a : List (ℕ × ℕ)) z. flat_map (rule_places (names_in a)) z) e c.deref-in-Handle-2.ensures.value) ∙ exp-Handle (names_in c.args.walk.now.around) c.args.exp.now c.in-Handle.field-0 c.in-Handle.body c.in-Handle.rules c.in-Handle.is)))
    c.of_rules.ensures

pub of_exp-returns-in-Raise : goal.of_exp-returns-in-Raise
of_exp-returns-in-Raise t c = if-ok c.of_exp-in-Raise.result (λ u k. walks-for c.args.walk.now _ _ _ (stand-are _ _ (ap (exp_places (names_in c.args.walk.now.around)) c.deref-in-Raise.ensures ∙ exp-Raise (names_in c.args.walk.now.around) c.args.exp.now c.in-Raise.field-0 c.in-Raise.body c.in-Raise.is)) k) c.of_exp-in-Raise.ensures

pub of_exp-returns-in-Fn : goal.of_exp-returns-in-Fn
of_exp-returns-in-Fn t c = if-ok c.of_rules-in-Fn.result (λ u k. walks-for c.args.walk.now _ _ _ (stand-are _ _ (ap (flat_map (rule_places (names_in c.args.walk.now.around))) c.deref-in-Fn.ensures.value ∙ exp-Fn (names_in c.args.walk.now.around) c.args.exp.now c.in-Fn.field-0 c.in-Fn.rules c.in-Fn.is)) k) c.of_rules-in-Fn.ensures

pub of_dec-returns-in_ok-of_recs-in-Val : goal.of_dec-returns-in_ok-of_recs-in-Val
of_dec-returns-in_ok-of_recs-in-Val t c =
    let s = names_in c.args.walk.now.around in
    let as_ = c.in-Val.tyvars.tyvars.items in
    let scope = ap names_in c.in_ok-entered-in-Val.ensures.around ∙ names-onto _ c.args.walk.now.around
    ∙ ap₂ (λ b r. scope_in s as_ (binds_of (map bind_of b)) (binds_of (map bind_of r))) c.deref.ensures.value c.deref-in-Val.ensures.value in
    if-ok-both c.leave.result
    (λ u g k.
    walks-inside c.args.walk.now _ _ _ _ c.in_ok-entered-in-Val.entered.mark _ _ _ c.in_ok-entered-in-Val.ensures.around refl (walks-then _ _ _ _ _ c.in_ok-of_binds-in-Val.ensures c.in_ok-of_recs-in-Val.ensures)
    (ap (λ (e : Entered). e.mark) c.in_ok-entered-in-Val.ensures.entered) g k
    (stand-are _ _
    (ap₂ (λ x y. x ++ y)
    (ap₂ (λ x y. x ++ y) (ap₂ (λ z l. flat_map (bind_places z) l) scope c.deref-in-Val-2.ensures.value)
    (ap₂ (λ z l. flat_map (rec_places z) l) (ap names_in c.in_ok-of_binds-in-Val.ensures.around ∙ scope) c.deref-in-Val-3.ensures.value))
    (ap (λ (e : Entered). unless e.new c.in-Val.tyvars.place) c.in_ok-entered-in-Val.ensures.entered)
    ∙ dec-Val s c.args.dec.now c.in-Val.field-0 c.in-Val.tyvars c.in-Val.binds c.in-Val.recs c.in-Val.is)))
    c.leave.ensures.around c.leave.ensures.found

pub of_dec-returns-in_ok-of_functions-in-Fun : goal.of_dec-returns-in_ok-of_functions-in-Fun
of_dec-returns-in_ok-of_functions-in-Fun t c =
    let s = names_in c.args.walk.now.around in
    let as_ = c.in-Fun.tyvars.tyvars.items in
    let scope = ap names_in c.in_ok-entered-in-Fun.ensures.around ∙ names-onto _ c.args.walk.now.around
    ∙ ap (λ g. scope_in s as_ no_binds (function_binds (map function_of g))) c.deref-in-Fun.ensures.value in
    if-ok-both c.leave-in-Fun.result
    (λ u g k.
    walks-inside c.args.walk.now _ _ _ _ c.in_ok-entered-in-Fun.entered.mark _ _ _ c.in_ok-entered-in-Fun.ensures.around refl c.in_ok-of_functions-in-Fun.ensures
    (ap (λ (e : Entered). e.mark) c.in_ok-entered-in-Fun.ensures.entered) g k
    (stand-are _ _
    (ap₂ (λ x y. x ++ y) (ap₂ (λ z l. flat_map (function_places z) l) scope c.deref-in-Fun-2.ensures.value)
    (ap (λ (e : Entered). unless e.new c.in-Fun.tyvars.place) c.in_ok-entered-in-Fun.ensures.entered)
    ∙ dec-Fun s c.args.dec.now c.in-Fun.field-0 c.in-Fun.tyvars c.in-Fun.functions c.in-Fun.is)))
    c.leave-in-Fun.ensures.around c.leave-in-Fun.ensures.found

pub of_dec-returns-in-Abbreviation : goal.of_dec-returns-in-Abbreviation
of_dec-returns-in-Abbreviation t c =
    if-ok c.of_types.result (λ u k. walks-for c.args.walk.now _ _ _ (stand-are _ _ (ap (type_places c.in-Abbreviation.place) c.deref-in-Abbreviation.ensures.value ∙ dec-Abbreviation (names_in c.args.walk.now.around) c.args.dec.now c.in-Abbreviation.place c.in-Abbreviation.binds c.in-Abbreviation.is)) (walks-found _ _ _ refl k)) c.of_types.ensures

pub of_dec-returns-in-Datatype : goal.of_dec-returns-in-Datatype
of_dec-returns-in-Datatype t c =
    if-ok c.of_datatype.result (λ u k. walks-for c.args.walk.now _ _ _ (stand-are _ _ (ap (datatype_places c.in-Datatype.place) c.deref-in-Datatype.ensures.value ∙ dec-Datatype (names_in c.args.walk.now.around) c.args.dec.now c.in-Datatype.place c.in-Datatype.binds c.in-Datatype.is)) (walks-found _ _ _ refl k)) c.of_datatype.ensures

pub of_dec-returns-in-Withtype : goal.of_dec-returns-in-Withtype
of_dec-returns-in-Withtype t c =
    if-ok c.of_withtype.result (λ u k. walks-for c.args.walk.now _ _ _ (stand-are _ _ (ap₂ (withtype_places c.in-Withtype.place) c.deref-in-Withtype.ensures.value c.deref-in-Withtype-2.ensures.value ∙ dec-Withtype (names_in c.args.walk.now.around) c.args.dec.now c.in-Withtype.place c.in-Withtype.binds c.in-Withtype.types c.in-Withtype.is)) (walks-found _ _ _ refl k)) c.of_withtype.ensures

pub of_dec-returns-in-Exception : goal.of_dec-returns-in-Exception
of_dec-returns-in-Exception t c =
    if-ok c.of_exceptions.result (λ u k. walks-for c.args.walk.now _ _ _ (stand-are _ _ (ap (exception_places c.in-Exception.place) c.deref-in-Exception.ensures.value ∙ dec-Exception (names_in c.args.walk.now.around) c.args.dec.now c.in-Exception.place c.in-Exception.binds c.in-Exception.is)) (walks-found _ _ _ refl k)) c.of_exceptions.ensures

pub of_dec-returns-in-Replicate : goal.of_dec-returns-in-Replicate
of_dec-returns-in-Replicate t c = walks-none c.args.walk.now _ (dec-Replicate (names_in c.args.walk.now.around) c.args.dec.now c.in-Replicate.field-0 c.in-Replicate.field-1 c.in-Replicate.field-2 c.in-Replicate.is)

pub of_dec-returns-in_ok-of_decs-in-Local : goal.of_dec-returns-in_ok-of_decs-in-Local
of_dec-returns-in_ok-of_decs-in-Local t c =
    if-ok c.of_decs-in-Local.result
    (λ u k. walks-two c.args.walk.now _ _ _ _ _ c.in_ok-of_decs-in-Local.ensures k (λ e. stand-are _ _ (ap₂ (λ a b. a ++ b) (ap (flat_map (dec_places (names_in c.args.walk.now.around))) c.deref-in-Local.ensures.value) (ap₂ (λ (a : List (ℕ × ℕ)) z. flat_map (dec_places (names_in a)) z) e c.deref-in-Local-2.ensures.value) ∙ dec-Local (names_in c.args.walk.now.around) c.args.dec.now c.in-Local.field-0 c.in-Local.decs c.in-Local.shown c.in-Local.is)))
    c.of_decs-in-Local.ensures

pub of_dec-returns-in-Open : goal.of_dec-returns-in-Open
of_dec-returns-in-Open t c = walks-none c.args.walk.now _ (dec-Open (names_in c.args.walk.now.around) c.args.dec.now c.in-Open.field-0 c.in-Open.field-1 c.in-Open.is)

pub of_dec-returns-in_ok-of_decs-in-Declarations : goal.of_dec-returns-in_ok-of_decs-in-Declarations
of_dec-returns-in_ok-of_decs-in-Declarations t c =
    if-ok c.check_sequence.result
    (λ u k. walks-two c.args.walk.now _ _ _ _ _ c.in_ok-of_decs-in-Declarations.ensures (walks-found _ _ _ refl k) (λ e. stand-are _ _ (ap₂ (λ a b. a ++ unless (distinct nat_eq b) c.in-Declarations.place) (ap (flat_map (dec_places (names_in c.args.walk.now.around))) c.deref-in-Declarations.ensures.value) (ap (flat_map named_types) c.deref-in-Declarations-2.ensures.value) ∙ dec-Declarations (names_in c.args.walk.now.around) c.args.dec.now c.in-Declarations.place c.in-Declarations.decs c.in-Declarations.is)))
    c.check_sequence.ensures
