use Rattle.std.proofs.Common.{refl}
use Rattle.elab_steps.proofs.Growing.{grows_on, always_later}
use Rattle.rec_groups.proofs.Adding.{rules_function}
use Rattle.rec_groups.proofs.functions.by_rules.Goals as goal

pub returns : goal.returns
returns c S rs h =
    let N = c.args.state.now in
    let P = c.functions.new.state in
    let A = c.write.new.state in
    let T = c.write-2.new.state in
    let ga = c.in_ok-domain.ensures.grows in
    let gt = c.in_ok-range.ensures.grows in
    rules_function S N P T c.args.context.now c.args.place rs c.args.made c.in_ok-ty.ty c.in_ok-domain.domain c.in_ok-range.range _ _ h c.in_ok-ty.ensures.grows c.in_ok-ty.ensures.is
    c.in_ok-ty.ensures.has (grows_on P A T ga gt) (always_later A T _ gt c.in_ok-domain.ensures.is) c.in_ok-range.ensures.is c.new.ensures.items refl refl
