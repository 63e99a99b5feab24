use Rattle.std.proofs.Common.{[], ◌∷◌, ◌++◌, refl, ap, ◌∙◌}
use Rattle.elab_context.proofs.Contents.{all_found, end_is, none_found, none_yet, one_found}
use Rattle.elab_context.proofs.context.Context.constructors.Goals as goal
use Rattle.elab_context.proofs.context.Context.constructors.Goals.{in-Some+in_ok-push, in_default}

pub loop-number-init : goal.loop-number-init
loop-number-init c = c.new-made.ensures.items ∙ none_yet c.args.of.constructors.first c.args.self.now.schemes.items

pub loop-number-preserved : goal.loop-number-preserved
loop-number-preserved c = elim c.match-at.branch [
  | in-Some+in_ok-push w ↦
      one_found _ c.loop-number.number _ _ c.at.result.now w.in-Some.built c.loop-number.made.items _ c.loop-number.auto.number refl c.at.ensures w.in-Some.is
      c.loop-number.invariant
      (ap (λ v. v.items) w.made-is ∙ w.in_ok-push.ensures.items ∙ ap (λ e. c.loop-number.made.items ++ e ∷ []) w.constructor_with.ensures)
  | in_default w ↦
      none_found _ c.loop-number.number _ _ c.at.result.now c.loop-number.made.items _ c.loop-number.auto.number refl c.at.ensures w.in_default.is c.loop-number.invariant
      (ap (λ v. v.items) w.made-is)
]

pub returns : goal.returns
returns c = all_found _ _ c.min-end.result c.loop-number.number _ _ (end_is _ _ _ _ _ _ c.saturating_add.ensures (c.min-end.ensures) c.len.ensures c.len.type_inv) c.loop-number.auto.number c.loop-number-test.false c.loop-number.auto.number-end c.loop-number.invariant
