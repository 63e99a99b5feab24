use Rattle.std.proofs.Common.{[], refl, sym, subst, ◌∙◌}
use Rattle.elab_context.specs.of_elab_steps.Growing.{Always, IsWithin}
use Rattle.elab_context.specs.Entries.{entry_in}
use Rattle.pat_elab.proofs.Leaves.{bound_is, free-from-true}
use Rattle.pat_elab.proofs.leaf.bind_variable.Goals as goal

pub returns : goal.returns
returns c =
    let C = c.args.context.now in
    let x = c.args.vid.now in
    record {
      is = bound_is c.args.state.now c.fresh_type.new.state c.next_variable.new.state C x c.args.bound.now.items c.push.new.self.items _ c.requires.context
          (free-from-true c.is_free-free.result c.find.result (entry_in C [] x) c.is_free-free.ensures c.find.ensures c.if-not-free.false)
          (sym c.is_kept-kept.ensures ∙ c.if-kept.false) c.in_ok-ty.ensures.grows c.in_ok-ty.ensures.is c.in_ok-ty.ensures.next
          (subst (λ l. Always c.fresh_type.new.state (λ W. IsWithin W l c.in_ok-ty.ty)) c.limit.ensures c.in_ok-ty.ensures.within)
          c.in_ok-number.ensures.grows c.in_ok-number.ensures.is c.in_ok-number.ensures.next c.in_ok-push.ensures.items refl;
    }
