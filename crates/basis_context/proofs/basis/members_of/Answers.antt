use Rattle.std.proofs.Common.{List, ◌∷◌, ◌++◌, [], ap, ◌∙◌}
use Rattle.elab_context.specs.declared.entry.Entry.{Entry}
use Rattle.vid_scope.specs.declared.vids.VidScope.{VidScope}
use Rattle.basis_context.proofs.basis.members_of.Goals as goal

pub returns : goal.returns
returns c = record {
  of_integers = c.in_ok-integers.integers;
  of_hidden = c.in_ok-hidden.hidden;
  all =
      c.in_ok-push-2.ensures.items ∙ ap (λ (l : List (VidScope Entry)). l ++ c.in_ok-hidden.hidden ∷ [])
      (c.in_ok-push.ensures.items ∙ ap (λ (l : List (VidScope Entry)). l ++ c.in_ok-integers.integers ∷ []) c.new-members.ensures.items);
  integers = record { named = c.in_ok-integers.ensures.named; fresh = c.in_ok-integers.ensures.fresh; equals = c.in_ok-integers.ensures.equals };
  hidden = record { named = c.in_ok-hidden.ensures.named; fresh = c.in_ok-hidden.ensures.fresh; equals = c.in_ok-hidden.ensures.equals };
}
