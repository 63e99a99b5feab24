use Rattle.std.proofs.Common.{◌≡◌, length, ap, nat_eq, subst, arith}
use Rattle.std.specs.Map.{lookup}
use Rattle.indexmap.specs.IndexMap.{get}
use Rattle.ty_solve.specs.Places.{AreNoted}
use Rattle.ty_solve.proofs.Noting.{noted-none}
use Rattle.ty_solve.proofs.places.all_places.Goals as goal

pub loop-i-init : goal.loop-i-init
loop-i-init c = noted-none c.args.labels.now _ (λ k. ap (lookup (nat_eq k)) c.new-places.ensures.empty)

pub loop-i-preserved : goal.loop-i-preserved
loop-i-preserved c = c.in_ok-note.ensures c.args.labels.now c.loop-i.invariant c.loop-i-test.true c.index-labels-i.is

pub returns : goal.returns
returns c =
    let e : c.loop-i.i ≡ length c.args.labels.now = omega (arith, c.loop-i-test.false, c.loop-i.auto.i-end) in
    subst (λ n. AreNoted c.args.labels.now n (get nat_eq c.loop-i.places)) e c.loop-i.invariant
