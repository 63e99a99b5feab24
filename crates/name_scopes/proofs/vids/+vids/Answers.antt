use Rattle.std.proofs.Common.{◌++◌, [], ◌∷◌, sym, ap, ap₂, ◌∙◌}
use Rattle.std.specs.Prelude.{flat_map}
use Rattle.sml_tree.specs.TreeOf.{pat_of}
use Rattle.name_scopes.specs.Patterns.{pat_vids}
use Rattle.name_scopes.proofs.PatVids.{vids-As, vids-Chain, vids-List, vids-Record, vids-Tuple}
use Rattle.name_scopes.proofs.Pushing.{added-both, added-for, added-last, added-next, added-none, if-ok}
use Rattle.name_scopes.proofs.vids.+vids.Goals as goal

pub push_fields-loop-i-init : goal.push_fields-loop-i-init
push_fields-loop-i-init t c e v = added-none c.args.vids.now.items

pub push_fields-loop-i-preserved : goal.push_fields-loop-i-preserved
push_fields-loop-i-preserved t c e v =
    added-next (λ f. pat_vids e (pat_of f.pat)) c.args.fields.now c.loop-i.i c.index-fields-i.result c.args.vids.now.items c.loop-i.vids.items _ c.loop-i-test.true c.index-fields-i.is
    (c.loop-i.invariant e v) (c.in_ok-push_vids.ensures e v)

pub push_fields-returns : goal.push_fields-returns
push_fields-returns t c e v =
    added-last (λ f. pat_vids e (pat_of f.pat)) c.args.fields.now c.loop-i.i c.args.vids.now.items c.loop-i.vids.items c.loop-i-test.false (c.loop-i.invariant e v)

pub push_parts-loop-i-init : goal.push_parts-loop-i-init
push_parts-loop-i-init t c e v = added-none c.args.vids.now.items

pub push_parts-loop-i-preserved : goal.push_parts-loop-i-preserved
push_parts-loop-i-preserved t c e v =
    added-next (λ o. pat_vids e (pat_of o.pat)) c.args.parts.now c.loop-i.i c.index-parts-i.result c.args.vids.now.items c.loop-i.vids.items _ c.loop-i-test.true c.index-parts-i.is
    (c.loop-i.invariant e v) (c.in_ok-push_vids.ensures e v)

pub push_parts-returns : goal.push_parts-returns
push_parts-returns t c e v =
    added-last (λ o. pat_vids e (pat_of o.pat)) c.args.parts.now c.loop-i.i c.args.vids.now.items c.loop-i.vids.items c.loop-i-test.false (c.loop-i.invariant e v)

pub push_pats-loop-i-init : goal.push_pats-loop-i-init
push_pats-loop-i-init t c e v = added-none c.args.vids.now.items

pub push_pats-loop-i-preserved : goal.push_pats-loop-i-preserved
push_pats-loop-i-preserved t c e v =
    added-next (λ a. pat_vids e (pat_of a)) c.args.pats.now c.loop-i.i c.index-pats-i.result c.args.vids.now.items c.loop-i.vids.items _ c.loop-i-test.true c.index-pats-i.is
    (c.loop-i.invariant e v) (c.in_ok-push_vids.ensures e v)

pub push_pats-returns : goal.push_pats-returns
push_pats-returns t c e v =
    added-last (λ a. pat_vids e (pat_of a)) c.args.pats.now c.loop-i.i c.args.vids.now.items c.loop-i.vids.items c.loop-i-test.false (c.loop-i.invariant e v)

pub push_vids-returns-in-Record : goal.push_vids-returns-in-Record
push_vids-returns-in-Record t c =
    if-ok c.push_fields.result
    (λ u h e v. added-for c.args.vids.now.items c.push_fields.new.vids.items _ _ (ap (flat_map (λ f. pat_vids e (pat_of f.pat))) c.deref.ensures.value ∙ sym (vids-Record e c.args.pat.now c.in-Record.field-0 c.in-Record.fields c.in-Record.field-2 c.in-Record.is)) (h e v))
    c.push_fields.ensures

pub push_vids-returns-in-Tuple : goal.push_vids-returns-in-Tuple
push_vids-returns-in-Tuple t c =
    if-ok c.push_pats.result
    (λ u h e v. added-for c.args.vids.now.items c.push_pats.new.vids.items _ _ (ap (flat_map (λ a. pat_vids e (pat_of a))) c.deref-in-Tuple.ensures.value ∙ sym (vids-Tuple e c.args.pat.now c.in-Tuple.field-0 c.in-Tuple.parts c.in-Tuple.is)) (h e v))
    c.push_pats.ensures

pub push_vids-returns-in-List : goal.push_vids-returns-in-List
push_vids-returns-in-List t c =
    if-ok c.push_pats-in-List.result
    (λ u h e v. added-for c.args.vids.now.items c.push_pats-in-List.new.vids.items _ _ (ap (flat_map (λ a. pat_vids e (pat_of a))) c.deref-in-List.ensures.value ∙ sym (vids-List e c.args.pat.now c.in-List.field-0 c.in-List.elements c.in-List.is)) (h e v))
    c.push_pats-in-List.ensures

pub push_vids-returns-in_ok-push_vids-in-Chain : goal.push_vids-returns-in_ok-push_vids-in-Chain
push_vids-returns-in_ok-push_vids-in-Chain t c =
    if-ok c.push_parts.result
    (λ u h e v. added-for c.args.vids.now.items c.push_parts.new.vids.items _ _
    (ap₂ (λ a b. a ++ b) (ap (λ z. pat_vids e (pat_of z)) c.deref-in-Chain.ensures) (ap (flat_map (λ o. pat_vids e (pat_of o.pat))) c.deref-in-Chain-2.ensures.value)
    ∙ sym (vids-Chain e c.args.pat.now c.in-Chain.field-0 c.in-Chain.field-1 c.in-Chain.first c.in-Chain.parts c.in-Chain.is))
    (added-both c.args.vids.now.items _ c.push_parts.new.vids.items (pat_vids e (pat_of c.deref-in-Chain.result.now)) (flat_map (λ o. pat_vids e (pat_of o.pat)) c.deref-in-Chain-2.result.now) (c.in_ok-push_vids-in-Chain.ensures e v) (h e v)))
    c.push_parts.ensures

pub push_vids-returns-in_ok-push_written-in-As : goal.push_vids-returns-in_ok-push_written-in-As
push_vids-returns-in_ok-push_written-in-As t c =
    if-ok c.push_vids-in-As.result
    (λ u h e v. added-for c.args.vids.now.items c.push_vids-in-As.new.vids.items _ _
    (ap (λ z. c.in-As.vid ∷ pat_vids e (pat_of z)) c.deref-in-As.ensures ∙ sym (vids-As e c.args.pat.now c.in-As.field-0 c.in-As.vid c.in-As.field-2 c.in-As.body c.in-As.is))
    (added-both c.args.vids.now.items _ c.push_vids-in-As.new.vids.items (c.in-As.vid ∷ []) (pat_vids e (pat_of c.deref-in-As.result.now)) c.in_ok-push_written-in-As.ensures (h e v)))
    c.push_vids-in-As.ensures
