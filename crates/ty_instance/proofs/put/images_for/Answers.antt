use Rattle.std.proofs.Common.{get_or, nat_eq, Some, None, if◌then◌else◌, sym, ap, ◌∙◌, arith}
use Rattle.std.specs.Map.{lookup}
use Rattle.std.specs.Option.{option_or}
use Rattle.ty_instance.proofs.PuttingFor.{first-next, first-whole}
use Rattle.ty_instance.proofs.put.images_for.Goals as goal

pub loop-i-init : goal.loop-i-init
loop-i-init c = λ v. ap (lookup (nat_eq v)) c.new-found.ensures.empty

pub loop-i-preserved : goal.loop-i-preserved
loop-i-preserved c = λ v. c.in_ok-note.ensures v ∙ ap (λ o. option_or o (if nat_eq (get_or c.args.parameters.now c.loop-i.i 0) v then Some (get_or c.args.images.now c.loop-i.i 0) else None)) (c.loop-i.invariant v) ∙ sym (first-next c.args.parameters.now c.args.images.now c.loop-i.i v c.loop-i-test.true c.requires)

pub returns : goal.returns
returns c = λ v. c.loop-i.invariant v ∙ first-whole c.args.parameters.now c.args.images.now c.loop-i.i v (omega (arith, c.loop-i-test.false, c.loop-i.auto.i-end)) c.requires
