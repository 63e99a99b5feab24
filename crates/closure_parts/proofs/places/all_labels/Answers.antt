use Rattle.std.proofs.Common.{refl, arith}
use Rattle.closure_parts.specs.Indexed.{label_keys}
use Rattle.closure_parts.proofs.Finding.{found-none, found-next, found-all}
use Rattle.closure_parts.proofs.places.all_labels.Goals as goal

pub loop-ty-init : goal.loop-ty-init
loop-ty-init c = found-none c.new-found.result.items (label_keys c.args.types.now) c.new-found.ensures.items

pub loop-ty-preserved : goal.loop-ty-preserved
loop-ty-preserved c = found-next c.loop-ty.found.items c.push.new.self.items c.in_ok-own.own c.loop-ty.ty _ (label_keys c.args.types.now) refl c.in_ok-push.ensures.items c.in_ok-own.ensures c.loop-ty.invariant

pub returns : goal.returns
returns c =
    found-all _ _ _ (label_keys c.args.types.now)
    (let a = c.loop-ty-test.false in
    let b = c.loop-ty.auto.ty-end in
    let d = c.len-ty-end.ensures.is in
    omega (arith, a, b, d))
    c.loop-ty.invariant
