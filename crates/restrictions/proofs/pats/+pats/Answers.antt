use Rattle.std.proofs.Common.{ap, ap₂, ◌++◌, ◌∙◌}
use Rattle.std.specs.Prelude.{flat_map, map}
use Rattle.restrictions.specs.Nodes.{field_pat_places, pat_part_places, pat_places, some_places, ty_places, unless_once}
use Rattle.restrictions.proofs.Standing.{adds-both, adds-for, adds-none, comes-first, comes-last, comes-next, if-ok, stand-are}
use Rattle.restrictions.proofs.TyNodes.{pat-As, pat-BuiltCon, pat-BuiltIn, pat-Chain, pat-Con, pat-Constant, pat-List, pat-Record, pat-Tuple, pat-Typed, pat-Vid, pat-Wild}
use Rattle.restrictions.proofs.pats.+pats.Goals as goal

pub of_fields-loop-i-init : goal.of_fields-loop-i-init
of_fields-loop-i-init t c = comes-first field_pat_places c.args.fields.now c.args.found.now.items

pub of_fields-loop-i-preserved : goal.of_fields-loop-i-preserved
of_fields-loop-i-preserved t c =
    comes-next field_pat_places c.args.fields.now c.loop-i.i c.index-fields-i.result c.args.found.now.items c.loop-i.found.items _ c.loop-i-test.true c.index-fields-i.is c.loop-i.invariant
    c.in_ok-of_pat.ensures

pub of_fields-returns : goal.of_fields-returns
of_fields-returns t c = comes-last field_pat_places c.args.fields.now c.loop-i.i c.args.found.now.items c.loop-i.found.items c.loop-i-test.false c.loop-i.invariant

pub of_pats-loop-i-init : goal.of_pats-loop-i-init
of_pats-loop-i-init t c = comes-first pat_places c.args.pats.now c.args.found.now.items

pub of_pats-loop-i-preserved : goal.of_pats-loop-i-preserved
of_pats-loop-i-preserved t c =
    comes-next pat_places c.args.pats.now c.loop-i.i c.index-pats-i.result c.args.found.now.items c.loop-i.found.items _ c.loop-i-test.true c.index-pats-i.is c.loop-i.invariant
    c.in_ok-of_pat.ensures

pub of_pats-returns : goal.of_pats-returns
of_pats-returns t c = comes-last pat_places c.args.pats.now c.loop-i.i c.args.found.now.items c.loop-i.found.items c.loop-i-test.false c.loop-i.invariant

pub of_parts-loop-i-init : goal.of_parts-loop-i-init
of_parts-loop-i-init t c = comes-first pat_part_places c.args.parts.now c.args.found.now.items

pub of_parts-loop-i-preserved : goal.of_parts-loop-i-preserved
of_parts-loop-i-preserved t c =
    comes-next pat_part_places c.args.parts.now c.loop-i.i c.index-parts-i.result c.args.found.now.items c.loop-i.found.items _ c.loop-i-test.true c.index-parts-i.is c.loop-i.invariant
    c.in_ok-of_pat.ensures

pub of_parts-returns : goal.of_parts-returns
of_parts-returns t c = comes-last pat_part_places c.args.parts.now c.loop-i.i c.args.found.now.items c.loop-i.found.items c.loop-i-test.false c.loop-i.invariant

pub of_pat-returns-in-Wild : goal.of_pat-returns-in-Wild
of_pat-returns-in-Wild t c = adds-none c.args.found.now.items _ (pat-Wild c.args.pat.now c.in-Wild.field-0 c.in-Wild.is)

pub of_pat-returns-in-Constant : goal.of_pat-returns-in-Constant
of_pat-returns-in-Constant t c = adds-none c.args.found.now.items _ (pat-Constant c.args.pat.now c.in-Constant.field-0 c.in-Constant.field-1 c.in-Constant.is)

pub of_pat-returns-in-Vid : goal.of_pat-returns-in-Vid
of_pat-returns-in-Vid t c = adds-none c.args.found.now.items _ (pat-Vid c.args.pat.now c.in-Vid.field-0 c.in-Vid.field-1 c.in-Vid.is)

pub of_pat-returns-in-BuiltIn : goal.of_pat-returns-in-BuiltIn
of_pat-returns-in-BuiltIn t c = adds-none c.args.found.now.items _ (pat-BuiltIn c.args.pat.now c.in-BuiltIn.field-0 c.in-BuiltIn.field-1 c.in-BuiltIn.is)

pub of_pat-returns-in_ok-of_fields-in-Record : goal.of_pat-returns-in_ok-of_fields-in-Record
of_pat-returns-in_ok-of_fields-in-Record t c =
    if-ok c.check_fields.result
    (λ u k. adds-both c.args.found.now.items _ _ _ _ _ c.in_ok-of_fields-in-Record.ensures k (stand-are _ _ (ap₂ (λ a b. a ++ unless_once b c.in-Record.place) (ap (flat_map field_pat_places) c.deref.ensures.value) (ap (map (λ f. f.label)) c.deref-in-Record.ensures.value) ∙ pat-Record c.args.pat.now c.in-Record.place c.in-Record.fields c.in-Record.field-2 c.in-Record.is)))
    c.check_fields.ensures

pub of_pat-returns-in-Tuple : goal.of_pat-returns-in-Tuple
of_pat-returns-in-Tuple t c = if-ok c.of_pats.result (λ u k. adds-for c.args.found.now.items _ _ _ (stand-are _ _ (ap (flat_map pat_places) c.deref-in-Tuple.ensures.value ∙ pat-Tuple c.args.pat.now c.in-Tuple.field-0 c.in-Tuple.parts c.in-Tuple.is)) k) c.of_pats.ensures

pub of_pat-returns-in-List : goal.of_pat-returns-in-List
of_pat-returns-in-List t c = if-ok c.of_pats-in-List.result (λ u k. adds-for c.args.found.now.items _ _ _ (stand-are _ _ (ap (flat_map pat_places) c.deref-in-List.ensures.value ∙ pat-List c.args.pat.now c.in-List.field-0 c.in-List.elements c.in-List.is)) k) c.of_pats-in-List.ensures

pub of_pat-returns-in-Con : goal.of_pat-returns-in-Con
of_pat-returns-in-Con t c = if-ok c.of_pat.result (λ u k. adds-for c.args.found.now.items _ _ _ (stand-are _ _ (ap pat_places c.deref-in-Con.ensures ∙ pat-Con c.args.pat.now c.in-Con.field-0 c.in-Con.field-1 c.in-Con.field-2 c.in-Con.argument c.in-Con.is)) k) c.of_pat.ensures

pub of_pat-returns-in-BuiltCon : goal.of_pat-returns-in-BuiltCon
of_pat-returns-in-BuiltCon t c = if-ok c.of_pat-in-BuiltCon.result (λ u k. adds-for c.args.found.now.items _ _ _ (stand-are _ _ (ap pat_places c.deref-in-BuiltCon.ensures ∙ pat-BuiltCon c.args.pat.now c.in-BuiltCon.field-0 c.in-BuiltCon.field-1 c.in-BuiltCon.argument c.in-BuiltCon.is)) k) c.of_pat-in-BuiltCon.ensures

pub of_pat-returns-in_ok-of_pat-in-Chain : goal.of_pat-returns-in_ok-of_pat-in-Chain
of_pat-returns-in_ok-of_pat-in-Chain t c =
    if-ok c.of_parts.result
    (λ u k. adds-both c.args.found.now.items _ _ _ _ _ c.in_ok-of_pat-in-Chain.ensures k (stand-are _ _ (ap₂ (λ a b. a ++ b) (ap pat_places c.deref-in-Chain.ensures) (ap (flat_map pat_part_places) c.deref-in-Chain-2.ensures.value) ∙ pat-Chain c.args.pat.now c.in-Chain.field-0 c.in-Chain.field-1 c.in-Chain.first c.in-Chain.parts c.in-Chain.is)))
    c.of_parts.ensures

pub of_pat-returns-in_ok-of_pat-in-Typed : goal.of_pat-returns-in_ok-of_pat-in-Typed
of_pat-returns-in_ok-of_pat-in-Typed t c =
    if-ok c.of_ty.result
    (λ u k. adds-both c.args.found.now.items _ _ _ _ _ c.in_ok-of_pat-in-Typed.ensures k (stand-are _ _ (ap (λ a. a ++ ty_places c.in-Typed.ty) (ap pat_places c.deref-in-Typed.ensures) ∙ pat-Typed c.args.pat.now c.in-Typed.field-0 c.in-Typed.inner c.in-Typed.ty c.in-Typed.is)))
    c.of_ty.ensures

pub of_pat-returns-in_ok-of_some-in-As : goal.of_pat-returns-in_ok-of_some-in-As
of_pat-returns-in_ok-of_some-in-As t c =
    if-ok c.of_pat-in-As.result
    (λ u k. adds-both c.args.found.now.items _ _ _ _ _ c.in_ok-of_some-in-As.ensures k (stand-are _ _ (ap (λ b. some_places c.in-As.ty ++ b) (ap pat_places c.deref-in-As.ensures) ∙ pat-As c.args.pat.now c.in-As.field-0 c.in-As.field-1 c.in-As.ty c.in-As.inner c.in-As.is)))
    c.of_pat-in-As.ensures
