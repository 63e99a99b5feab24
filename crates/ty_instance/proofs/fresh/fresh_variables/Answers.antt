use Rattle.std.proofs.Common.{◌≡◌, List, length, take, Some, ap, subst, ◌∙◌}
use Rattle.ty_solve.specs.of_ty_core.Types.{Typ, var}
use Rattle.ty_instance.proofs.Renaming.{made-none, made-next}
use Rattle.ty_instance.proofs.fresh.fresh_variables.Goals as goal

pub loop-mark-init : goal.loop-mark-init
loop-mark-init c = made-none c.args.solver.now.subst.types c.args.solver.now.subst.slots.items c.args.solver.now.limits.items c.args.limit _ c.new-variables.ensures.items

pub returns-in_err-v-clause-earlier_stay : goal.returns-in_err-v-clause-earlier_stay
returns-in_err-v-clause-earlier_stay c = ap (take (length c.args.solver.now.subst.types)) c.in_err-v.ensures.types ∙ c.loop-mark.invariant.stay

pub loop-mark-preserved : goal.loop-mark-preserved
loop-mark-preserved c = made-next c.args.solver.now.subst.types c.loop-mark.solver.subst.types c.variable.new.self.subst.types c.args.solver.now.subst.slots.items c.loop-mark.solver.subst.slots.items c.variable.new.self.subst.slots.items c.args.solver.now.limits.items c.loop-mark.solver.limits.items c.variable.new.self.limits.items c.args.limit c.args.marks.now c.loop-mark.mark-index _ c.loop-mark.variables.items c.push.new.self.items c.in_ok-variable.field-0 c.loop-mark-test.true c.loop-mark.invariant
    (c.in_ok-variable.ensures.slots ∙ c.in_ok-v.ensures.marked)
    (c.in_ok-variable.ensures.limits ∙ c.in_ok-v.ensures.limited)
    (subst (λ (w : List Typ). take (length w) c.variable.new.self.subst.types ≡ w) c.in_ok-v.ensures.types c.in_ok-variable.ensures.earlier_stay)
    (c.in_ok-variable.ensures.held ∙ ap (λ v. Some (var v)) c.in_ok-v.ensures.next)
    c.in_ok-push.ensures.items
