use Rattle.std.proofs.Common.{refl, sym, ap, ap₂, ◌++◌, ◌∙◌}
use Rattle.std.specs.Prelude.{flat_map}
use Rattle.scoped_tyvars.specs.Unguarded.{field_pat_tyvars, pat_part_tyvars, pat_tyvars, some_tyvars, ty_tyvars}
use Rattle.scoped_tyvars.proofs.Listing.{both-parts, if-ok, list-ends, list-next, nothing-found}
use Rattle.scoped_tyvars.proofs.Nodes.{pat-As, pat-BuiltCon, pat-BuiltIn, pat-Chain, pat-Con, pat-Constant, pat-List, pat-Record, pat-Tuple, pat-Typed, pat-Vid, pat-Wild}
use Rattle.scoped_tyvars.proofs.pats.+pats.Goals as goal

pub of_fields-loop-i-init : goal.of_fields-loop-i-init
of_fields-loop-i-init t c = refl

pub of_fields-loop-i-preserved : goal.of_fields-loop-i-preserved
of_fields-loop-i-preserved t c =
    list-next field_pat_tyvars c.args.fields.now c.loop-i.i c.index-fields-i.result c.loop-i.found.items _ _ c.loop-i-test.true c.index-fields-i.is c.loop-i.invariant c.in_ok-of_pat.ensures

pub of_fields-returns : goal.of_fields-returns
of_fields-returns t c = list-ends field_pat_tyvars c.args.fields.now c.loop-i.i c.loop-i.found.items _ c.loop-i-test.false c.loop-i.invariant

pub of_pats-loop-i-init : goal.of_pats-loop-i-init
of_pats-loop-i-init t c = refl

pub of_pats-loop-i-preserved : goal.of_pats-loop-i-preserved
of_pats-loop-i-preserved t c =
    list-next pat_tyvars c.args.pats.now c.loop-i.i c.index-pats-i.result c.loop-i.found.items _ _ c.loop-i-test.true c.index-pats-i.is c.loop-i.invariant c.in_ok-of_pat.ensures

pub of_pats-returns : goal.of_pats-returns
of_pats-returns t c = list-ends pat_tyvars c.args.pats.now c.loop-i.i c.loop-i.found.items _ c.loop-i-test.false c.loop-i.invariant

pub of_parts-loop-i-init : goal.of_parts-loop-i-init
of_parts-loop-i-init t c = refl

pub of_parts-loop-i-preserved : goal.of_parts-loop-i-preserved
of_parts-loop-i-preserved t c =
    list-next pat_part_tyvars c.args.parts.now c.loop-i.i c.index-parts-i.result c.loop-i.found.items _ _ c.loop-i-test.true c.index-parts-i.is c.loop-i.invariant c.in_ok-of_pat.ensures

pub of_parts-returns : goal.of_parts-returns
of_parts-returns t c = list-ends pat_part_tyvars c.args.parts.now c.loop-i.i c.loop-i.found.items _ c.loop-i-test.false c.loop-i.invariant

pub of_pat-returns-in-Wild : goal.of_pat-returns-in-Wild
of_pat-returns-in-Wild t c = nothing-found c.args.found.now.items _ (pat-Wild c.args.pat.now c.in-Wild.field-0 c.in-Wild.is)

pub of_pat-returns-in-Constant : goal.of_pat-returns-in-Constant
of_pat-returns-in-Constant t c = nothing-found c.args.found.now.items _ (pat-Constant c.args.pat.now c.in-Constant.field-0 c.in-Constant.field-1 c.in-Constant.is)

pub of_pat-returns-in-Vid : goal.of_pat-returns-in-Vid
of_pat-returns-in-Vid t c = nothing-found c.args.found.now.items _ (pat-Vid c.args.pat.now c.in-Vid.field-0 c.in-Vid.field-1 c.in-Vid.is)

pub of_pat-returns-in-BuiltIn : goal.of_pat-returns-in-BuiltIn
of_pat-returns-in-BuiltIn t c = nothing-found c.args.found.now.items _ (pat-BuiltIn c.args.pat.now c.in-BuiltIn.field-0 c.in-BuiltIn.field-1 c.in-BuiltIn.is)

pub of_pat-returns-in-Record : goal.of_pat-returns-in-Record
of_pat-returns-in-Record t c = if-ok c.of_fields.result (λ u k. k ∙ ap (λ l. c.args.found.now.items ++ l) (ap (flat_map field_pat_tyvars) c.deref.ensures.value ∙ sym (pat-Record c.args.pat.now c.in-Record.field-0 c.in-Record.fields c.in-Record.field-2 c.in-Record.is))) c.of_fields.ensures

pub of_pat-returns-in-Tuple : goal.of_pat-returns-in-Tuple
of_pat-returns-in-Tuple t c = if-ok c.of_pats.result (λ u k. k ∙ ap (λ l. c.args.found.now.items ++ l) (ap (flat_map pat_tyvars) c.deref-in-Tuple.ensures.value ∙ sym (pat-Tuple c.args.pat.now c.in-Tuple.field-0 c.in-Tuple.parts c.in-Tuple.is))) c.of_pats.ensures

pub of_pat-returns-in-List : goal.of_pat-returns-in-List
of_pat-returns-in-List t c = if-ok c.of_pats-in-List.result (λ u k. k ∙ ap (λ l. c.args.found.now.items ++ l) (ap (flat_map pat_tyvars) c.deref-in-List.ensures.value ∙ sym (pat-List c.args.pat.now c.in-List.field-0 c.in-List.elements c.in-List.is))) c.of_pats-in-List.ensures

pub of_pat-returns-in-Con : goal.of_pat-returns-in-Con
of_pat-returns-in-Con t c = if-ok c.of_pat.result (λ u k. k ∙ ap (λ l. c.args.found.now.items ++ l) (ap pat_tyvars c.deref-in-Con.ensures ∙ sym (pat-Con c.args.pat.now c.in-Con.field-0 c.in-Con.field-1 c.in-Con.field-2 c.in-Con.argument c.in-Con.is))) c.of_pat.ensures

pub of_pat-returns-in-BuiltCon : goal.of_pat-returns-in-BuiltCon
of_pat-returns-in-BuiltCon t c = if-ok c.of_pat-in-BuiltCon.result (λ u k. k ∙ ap (λ l. c.args.found.now.items ++ l) (ap pat_tyvars c.deref-in-BuiltCon.ensures ∙ sym (pat-BuiltCon c.args.pat.now c.in-BuiltCon.field-0 c.in-BuiltCon.field-1 c.in-BuiltCon.argument c.in-BuiltCon.is))) c.of_pat-in-BuiltCon.ensures

pub of_pat-returns-in_ok-of_pat-in-Chain : goal.of_pat-returns-in_ok-of_pat-in-Chain
of_pat-returns-in_ok-of_pat-in-Chain t c = if-ok c.of_parts.result (λ u k. both-parts c.args.found.now.items _ _ _ _ _ c.in_ok-of_pat-in-Chain.ensures k (ap₂ (λ a b. a ++ b) (ap pat_tyvars c.deref-in-Chain.ensures) (ap (flat_map pat_part_tyvars) c.deref-in-Chain-2.ensures.value) ∙ sym (pat-Chain c.args.pat.now c.in-Chain.field-0 c.in-Chain.field-1 c.in-Chain.first c.in-Chain.parts c.in-Chain.is))) c.of_parts.ensures

pub of_pat-returns-in_ok-of_pat-in-Typed : goal.of_pat-returns-in_ok-of_pat-in-Typed
of_pat-returns-in_ok-of_pat-in-Typed t c = if-ok c.of_ty.result (λ u k. both-parts c.args.found.now.items _ _ _ _ _ c.in_ok-of_pat-in-Typed.ensures k (ap (λ a. a ++ ty_tyvars c.in-Typed.ty) (ap pat_tyvars c.deref-in-Typed.ensures) ∙ sym (pat-Typed c.args.pat.now c.in-Typed.field-0 c.in-Typed.inner c.in-Typed.ty c.in-Typed.is))) c.of_ty.ensures

pub of_pat-returns-in_ok-of_some-in-As : goal.of_pat-returns-in_ok-of_some-in-As
of_pat-returns-in_ok-of_some-in-As t c = if-ok c.of_pat-in-As.result (λ u k. both-parts c.args.found.now.items _ _ _ _ _ c.in_ok-of_some-in-As.ensures k (ap (λ a. some_tyvars c.in-As.ty ++ a) (ap pat_tyvars c.deref-in-As.ensures) ∙ sym (pat-As c.args.pat.now c.in-As.field-0 c.in-As.field-1 c.in-As.ty c.in-As.inner c.in-As.is))) c.of_pat-in-As.ensures
