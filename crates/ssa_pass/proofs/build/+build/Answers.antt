use Rattle.std.proofs.Common.{◌≡◌, ◌∷◌, [], ◌++◌, ◌+◌, ◌&&◌, length, nat_eq, map, sym, ap, ◌∙◌}
use Rattle.ir_first.specs.Tree as f
use Rattle.first_tree.specs.TreeOf as source
use Rattle.ssa_tree.specs.TreeOf as target
use Rattle.ssa_build.specs.Build as b
use Rattle.ssa_pass.specs.Built.{exit_of, before_rest, ends_with, build_arm}
use Rattle.ssa_pass.proofs.Steps.{map-last, step-next}
use Rattle.ssa_pass.proofs.Arms.{if-ok, switch-is, case-is}
use Rattle.ssa_pass.proofs.build.+build.Goals as goal

pub build_steps-loop-i-preserved : goal.build_steps-loop-i-preserved
build_steps-loop-i-preserved t c =
    step-next (exit_of c.args.exit) c.args.miss c.args.before.now c.loop-i.i c.index-before-i.result c.index-before-i.result (source.tree_of c.args.rest.now) c.both_hold-last.result
    (map target.step_of c.loop-i.steps.items) _ (map target.step_of c.push.new.self.items) (target.step_of c.in-Step.made) c.loop-i-test.true c.index-before-i.is
    (c.both_hold-last.ensures ∙ ap (λ r. nat_eq (c.loop-i.i + 1) (length c.args.before.now) && r) c.is_last.ensures)
    (ap (map target.step_of) c.in_ok-push-in-Step.ensures.items ∙ map-last target.step_of c.loop-i.steps.items c.in-Step.made)
    (λ e h. sym (ap (λ x. before_rest x (b.build (exit_of c.args.exit) c.args.miss e)) c.in-Step.is) ∙ c.in_ok-made.ensures e h)
    c.loop-i.invariant

pub build_onto-returns-in-Ok : goal.build_onto-returns-in-Ok
build_onto-returns-in-Ok t c =
    if-ok _ _ c.switched.result c.switched.ensures
    (λ d h. ap (target.onto (map target.step_of c.args.steps.now.items))
    (switch-is (exit_of c.args.exit) c.args.miss c.in-Switch.cell c.args.e.now c.in-Switch.arms _ _ _ _ c.in-Switch.is c.deref-in-Switch.ensures.value c.new-made.ensures.items c.in-Ok.ensures h))

pub build_step-returns-in-Ok-build_arms : goal.build_step-returns-in-Ok-build_arms
build_step-returns-in-Ok-build_arms t c =
    if-ok _ _ c.cased.result c.cased.ensures
    (λ d h e k. case-is (exit_of c.args.exit) c.args.miss c.in-Case.cell c.in-Case.tag c.args.step.now c.in-Case.others _ _ _ e _ c.in-Case.is c.deref-in-Case.ensures.value c.new-made.ensures.items c.in-Ok-build_arms.ensures (h (b.build (exit_of c.args.exit) c.args.miss e)))
