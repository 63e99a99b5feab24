use Rattle.std.proofs.Common.{refl, subst}
use Rattle.sml_tree.specs.Derived.{short}
use Rattle.rec_groups.specs.Heads.{IsTaken}
use Rattle.elab_steps.specs.Growing.{Always, IsWithin}
use Rattle.rec_groups.proofs.Reserving.{reserved_is, vid_reserved}
use Rattle.rec_groups.proofs.reserve.reserve_name.Goals as goal

pub returns : goal.returns
returns c q =
    reserved_is c.args.state.now c.fresh_type.new.state c.reserve_variable.new.state c.args.context.now _ _ c.in_ok-ty.ensures.grows c.in_ok-ty.ensures.is (subst (λ l. Always c.fresh_type.new.state (λ W. IsWithin W l c.in_ok-ty.ty)) c.limit.ensures c.in_ok-ty.ensures.within)
    c.in_ok-ty.ensures.next
    (vid_reserved c.fresh_type.new.state c.reserve_variable.new.state q (short c.args.vid.now) c.in_ok-ty.ty _ refl
    (subst (λ l. IsTaken c.fresh_type.new.state c.args.vid.now c.in_ok-ty.ty l c.reserve_variable.new.variables.items c.reserve_variable.new.state) c.new-variables.ensures.items c.in_ok-reserve_variable.ensures))
