use Rattle.std.proofs.Common.{◌<◌, length, refl, subst, ◌∙◌, sym, arith}
use Rattle.name_scopes.specs.Nodes.{pat_phrase}
use Rattle.name_scopes.specs.Parts.{InPatParts}
use Rattle.name_scopes.specs.Placed.{FoundAt}
use Rattle.name_scopes.proofs.Among.{among-at, any-at, any-same, unbound-at}
use Rattle.name_scopes.proofs.PatNodes.{pat-As, pat-BuiltCon, pat-Chain-first, pat-Con, pat-Con-own, pat-List, pat-Record, pat-Tuple, pat-Typed, pat-Typed-ty, pat-Vid}
use Rattle.name_scopes.proofs.PatParts.{in-joint, in-operand, none-above, pat-As-some, pat-Chain-in, qualified-at}
use Rattle.name_scopes.proofs.TwiceNodes.{pat-As-twice, pat-Vid-twice}
use Rattle.name_scopes.proofs.pats.+pats.Goals.{in_pat-then-len-gt0, in_pat-else-len-gt0}
use Rattle.name_scopes.proofs.pats.+pats.Goals as goal

pub in_fields-returns-then-in_pat : goal.in_fields-returns-then-in_pat
in_fields-returns-then-in_pat t c u e k =
    any-at c.args.sought.now e (λ f. pat_phrase f.pat) c.args.fields.now c.loop-i.i c.index-fields-i.result c.loop-i-test.true c.index-fields-i.is (c.if-in_pat.ensures u e k)

pub in_pats-returns-then-in_pat : goal.in_pats-returns-then-in_pat
in_pats-returns-then-in_pat t c u e k =
    any-at c.args.sought.now e pat_phrase c.args.pats.now c.loop-i.i c.index-pats-i.result c.loop-i-test.true c.index-pats-i.is (c.if-in_pat.ensures u e k)

pub in_parts-returns-then-is_unbound_vid : goal.in_parts-returns-then-is_unbound_vid
in_parts-returns-then-is_unbound_vid t c u e k =
    in-joint c.args.sought.now e c.args.parts.now c.index-parts-i.result (among-at c.args.parts.now c.loop-i.i c.index-parts-i.result c.loop-i-test.true c.index-parts-i.is)
    (unbound-at c.args.sought.now _ _ (c.if-is_unbound_vid.ensures u e k) (c.if-is_at.ensures u))

pub in_parts-returns-then-in_pat : goal.in_parts-returns-then-in_pat
in_parts-returns-then-in_pat t c u e k =
    in-operand c.args.sought.now e c.args.parts.now c.index-parts-i.result (among-at c.args.parts.now c.loop-i.i c.index-parts-i.result c.loop-i-test.true c.index-parts-i.is)
    (c.if-in_pat.ensures u e k)

pub in_pat-returns-then-is_at : goal.in_pat-returns-then-is_at
in_pat-returns-then-is_at t c u e k = elim c.if-len-gt0.branch [
  | in_pat-then-len-gt0 w ↦
      let lt : 0 < length c.in-Vid.long.qualifiers.items = omega (arith, w.if-len-gt0.true, c.len.ensures) in
      pat-Vid c.args.sought.now e c.args.pat.now c.in-Vid.at c.in-Vid.long c.in-Vid.is
      (qualified-at c.args.sought.now c.in-Vid.long.qualifiers.items _ lt
      (unbound-at c.args.sought.now _ _ (c.is_unbound_value.ensures u e k) (w.is_at.ensures (sym w.value-is ∙ c.if-is_at.true))))
  | in_pat-else-len-gt0 w ↦ none-above c.len.result w.if-len-gt0.false (sym w.value-is ∙ c.if-is_at.true)
]

pub in_pat-returns-in-Record : goal.in_pat-returns-in-Record
in_pat-returns-in-Record t c u e k =
    pat-Record c.args.sought.now e c.args.pat.now c.in-Record.field-0 c.in-Record.fields c.in-Record.field-2 c.in-Record.is
    (any-same c.args.sought.now e (λ f. pat_phrase f.pat) _ _ c.deref.ensures.value (c.in_fields.ensures u e k))

pub in_pat-returns-in-Tuple : goal.in_pat-returns-in-Tuple
in_pat-returns-in-Tuple t c u e k =
    pat-Tuple c.args.sought.now e c.args.pat.now c.in-Tuple.field-0 c.in-Tuple.parts c.in-Tuple.is
    (any-same c.args.sought.now e pat_phrase _ _ c.deref-in-Tuple.ensures.value (c.in_pats.ensures u e k))

pub in_pat-returns-in-List : goal.in_pat-returns-in-List
in_pat-returns-in-List t c u e k =
    pat-List c.args.sought.now e c.args.pat.now c.in-List.field-0 c.in-List.elements c.in-List.is
    (any-same c.args.sought.now e pat_phrase _ _ c.deref-in-List.ensures.value (c.in_pats-in-List.ensures u e k))

pub in_pat-returns-then-is_unbound_value : goal.in_pat-returns-then-is_unbound_value
in_pat-returns-then-is_unbound_value t c u e k =
    pat-Con-own c.args.sought.now e c.args.pat.now c.in-Con.field-0 c.in-Con.at c.in-Con.long c.in-Con.argument c.in-Con.is
    (unbound-at c.args.sought.now _ _ (c.if-is_unbound_value.ensures u e k) (c.if-is_at-2.ensures u))

pub in_pat-returns-else-is_at-2 : goal.in_pat-returns-else-is_at-2
in_pat-returns-else-is_at-2 t c u e k =
    pat-Con c.args.sought.now e c.args.pat.now c.in-Con.field-0 c.in-Con.at c.in-Con.long c.in-Con.argument c.in-Con.is
    (subst (λ z. FoundAt c.args.sought.now e (pat_phrase z)) c.deref-in-Con.ensures (c.in_pat.ensures u e k))

pub in_pat-returns-in-BuiltCon : goal.in_pat-returns-in-BuiltCon
in_pat-returns-in-BuiltCon t c u e k =
    pat-BuiltCon c.args.sought.now e c.args.pat.now c.in-BuiltCon.field-0 c.in-BuiltCon.field-1 c.in-BuiltCon.argument c.in-BuiltCon.is
    (subst (λ z. FoundAt c.args.sought.now e (pat_phrase z)) c.deref-in-BuiltCon.ensures (c.in_pat-in-BuiltCon.ensures u e k))

pub in_pat-returns-then-in_pat : goal.in_pat-returns-then-in_pat
in_pat-returns-then-in_pat t c u e k =
    pat-Chain-first c.args.sought.now e c.args.pat.now c.in-Chain.field-0 c.in-Chain.field-1 c.in-Chain.first c.in-Chain.parts c.in-Chain.is
    (subst (λ z. FoundAt c.args.sought.now e (pat_phrase z)) c.deref-in-Chain.ensures (c.in_pat-in-Chain.ensures u e k))

pub in_pat-returns-else-in_pat : goal.in_pat-returns-else-in_pat
in_pat-returns-else-in_pat t c u e k =
    pat-Chain-in c.args.sought.now e c.args.pat.now c.in-Chain.field-0 c.in-Chain.field-1 c.in-Chain.first c.in-Chain.parts c.in-Chain.is
    (subst (InPatParts c.args.sought.now e) c.deref-else-in_pat.ensures.value (c.in_parts.ensures u e k))

pub in_pat-returns-then-in_pat-2 : goal.in_pat-returns-then-in_pat-2
in_pat-returns-then-in_pat-2 t c u e k =
    pat-Typed c.args.sought.now e c.args.pat.now c.in-Typed.field-0 c.in-Typed.body c.in-Typed.ty c.in-Typed.is
    (subst (λ z. FoundAt c.args.sought.now e (pat_phrase z)) c.deref-in-Typed.ensures (c.in_pat-in-Typed.ensures u e k))

pub in_pat-returns-else-in_pat-2 : goal.in_pat-returns-else-in_pat-2
in_pat-returns-else-in_pat-2 t c u e k =
    pat-Typed-ty c.args.sought.now e c.args.pat.now c.in-Typed.field-0 c.in-Typed.body c.in-Typed.ty c.in-Typed.is (c.in_ty.ensures u e k)

pub in_pat-returns-then-in_some_ty : goal.in_pat-returns-then-in_some_ty
in_pat-returns-then-in_some_ty t c u e k =
    pat-As-some c.args.sought.now e c.args.pat.now c.in-As.at c.in-As.vid c.in-As.ty c.in-As.body c.in-As.is (c.in_some_ty.ensures u e k)

pub in_pat-returns-else-in_some_ty : goal.in_pat-returns-else-in_some_ty
in_pat-returns-else-in_some_ty t c u e k =
    pat-As c.args.sought.now e c.args.pat.now c.in-As.at c.in-As.vid c.in-As.ty c.in-As.body c.in-As.is
    (subst (λ z. FoundAt c.args.sought.now e (pat_phrase z)) c.deref-else-in_some_ty.ensures (c.in_pat-else-in_some_ty.ensures u e k))

pub in_pat-returns-then-is_twice_at : goal.in_pat-returns-then-is_twice_at
in_pat-returns-then-is_twice_at t c u e k =
    pat-Vid-twice c.args.sought.now e c.args.pat.now c.in-Vid.at c.in-Vid.long c.in-Vid.is (c.if-is_twice_at.ensures refl) (c.is_kept_alone.ensures u e k c.in-Vid.at)

pub in_pat-returns-then-is_never_before_as : goal.in_pat-returns-then-is_never_before_as
in_pat-returns-then-is_never_before_as t c u e k =
    pat-As-twice c.args.sought.now e c.args.pat.now c.in-As.at c.in-As.vid c.in-As.ty c.in-As.body c.in-As.is (c.if-is_twice_at-2.ensures u) (c.if-is_never_before_as.ensures u e k)
