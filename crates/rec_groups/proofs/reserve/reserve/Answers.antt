use Rattle.std.proofs.Common.{subst}
use Rattle.elab_steps.specs.Growing.{Always, IsWithin}
use Rattle.rec_groups.proofs.Reserving.{reserved_is}
use Rattle.rec_groups.proofs.reserve.reserve.Goals as goal

pub returns : goal.returns
returns c =
    reserved_is c.args.state.now c.fresh_type.new.state c.reserve_all.new.state c.args.context.now _ _ c.in_ok-ty.ensures.grows c.in_ok-ty.ensures.is (subst (λ l. Always c.fresh_type.new.state (λ W. IsWithin W l c.in_ok-ty.ty)) c.limit.ensures c.in_ok-ty.ensures.within) c.in_ok-ty.ensures.next
    c.in_ok-reserve_all.ensures
