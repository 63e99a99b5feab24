use Rattle.std.proofs.Common.{◌+◌, ◌++◌, ◌∷◌, [], slice_index_or, refl, sym, ap, ◌∙◌}
use Rattle.elab_types.proofs.Parts.{numbered, numbered-next}
use Rattle.elab_types.proofs.build.number_parts.Goals as goal

pub loop-i-preserved : goal.loop-i-preserved
loop-i-preserved c =
    c.in_ok-push.ensures.items ∙ ap (λ l. l ++ numbered (c.loop-i.i + 1) (slice_index_or c.args.parts.now c.loop-i.i 0) ∷ []) c.loop-i.invariant
    ∙ sym (numbered-next c.args.parts.now c.loop-i.i (c.loop-i.i + 1) (numbered (c.loop-i.i + 1) (slice_index_or c.args.parts.now c.loop-i.i 0)) c.loop-i-test.true refl refl)
