use Rattle.std.proofs.Common.{subst}
use Rattle.elab_context.specs.of_elab_steps.Growing.{Always, IsWithin}
use Rattle.pat_elab.proofs.Listing.{empty_is}
use Rattle.pat_elab.proofs.built.empty.Goals as goal

pub returns : goal.returns
returns c = record {
  is = λ p bs. empty_is c.args.state.now c.fresh_type.new.state c.lists.new.state c.args.context.now p bs c.in_ok-element.element c.in_ok-ty.ty c.nil.result c.requires.context c.in_ok-element.ensures.grows
      (subst (λ l. Always c.fresh_type.new.state (λ W. IsWithin W l c.in_ok-element.element)) c.limit.ensures c.in_ok-element.ensures.within) c.in_ok-element.ensures.next
      c.in_ok-ty.ensures.grows c.in_ok-ty.ensures.is c.in_ok-ty.ensures.has c.in_ok-ty.ensures.next c.nil.ensures.pat c.nil.ensures.ty;
}
