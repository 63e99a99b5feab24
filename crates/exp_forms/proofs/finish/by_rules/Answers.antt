use Rattle.std.proofs.Common.{refl}
use Rattle.pat_elab.proofs.of_elab_steps.Growing.{grows_on, always_later}
use Rattle.exp_forms.proofs.Finishing.{function_is}
use Rattle.exp_forms.proofs.finish.by_rules.Goals as goal

pub returns : goal.returns
returns c S p rs h =
    let N = c.args.state.now in
    let P = c.functions.new.state in
    let A = c.write.new.state in
    let B = c.write-2.new.state in
    let T = c.write-3.new.state in
    let ga = c.in_ok-whole.ensures.grows in
    let gb = c.in_ok-domain.ensures.grows in
    let gt = c.in_ok-range.ensures.grows in
    let bt = grows_on A B T gb gt in
    function_is S N P T c.args.context.now c.args.place p rs c.args.made c.in_ok-ty.ty c.in_ok-whole.whole c.in_ok-domain.domain c.in_ok-range.range _ _ h c.in_ok-ty.ensures.grows
    c.in_ok-ty.ensures.is c.in_ok-ty.ensures.has (grows_on P A T ga bt) (always_later A T _ bt c.in_ok-whole.ensures.is) (always_later B T _ gt c.in_ok-domain.ensures.is)
    c.in_ok-range.ensures.is c.new.ensures.items refl refl
