use Rattle.std.proofs.Common.{refl, sym}
use Rattle.ir_plain.specs.Tree.{app}
use Rattle.match_compile.specs.Compile.{atom}
use Rattle.exp_steps.proofs.Leaves.{after-two, along-call}
use Rattle.exp_steps.proofs.calls.push_call.Goals as goal

pub returns : goal.returns
returns c = λ w v ss us f d called makes more.
    let p = c.in_ok-a.ensures in
    after-two (λ x y o. app c.args.place (atom x) (atom y)) makes more p.keeps p.is p.next (p.puts (λ o. app c.args.place (atom c.args.function) (atom c.args.argument)) (λ o s. refl))
    (λ R k. along-call _ _ _ _ (called R)) (λ o k rest. sym (along-call _ _ _ _ (called o.source)))
