use Rattle.std.proofs.Common.{◌<◌, ◌≤◌, ◌∙◌, arith}
use Rattle.elab_state.specs.States.{made}
use Rattle.elab_steps.proofs.Growing.{grows_on}
use Rattle.run_end.proofs.Choosing.{ahead-next, chosen-ends, chosen-next}
use Rattle.run_end.proofs.choose.choose_classes.Goals as goal

pub loop-v-preserved : goal.loop-v-preserved
loop-v-preserved c =
    let S = c.args.state.now in
    let M = c.loop-v.state in
    let T = c.choose_if.new.state in
    let h = c.loop-v.invariant in
    let e = c.in_ok-choose_if.ensures in
    let lt : c.loop-v.v < made S = omega (arith, c.loop-v-test.true, c.len-v-end.ensures, S.solver.each_has_one, S.solver.limits.ok.0) in
    record {
      grows = grows_on S M T h.grows e.grows;
      next = e.next ∙ h.next;
      chosen = chosen-next S M T c.args.first c.loop-v.v h.grows e.grows lt h.chosen h.ahead e.chosen e.others;
      ahead = ahead-next S M T c.args.first c.loop-v.v h.grows e.grows lt h.chosen h.ahead e.chosen e.others;
    }

pub returns-clause-chosen : goal.returns-clause-chosen
returns-clause-chosen c =
    let S = c.args.state.now in
    let le : made S ≤ c.loop-v.v = omega (arith, c.loop-v-test.false, c.len-v-end.ensures, S.solver.each_has_one, S.solver.limits.ok.0) in
    chosen-ends S c.loop-v.state c.args.first c.loop-v.v le c.loop-v.invariant.chosen
