use Rattle.std.proofs.Common.{◌≡◌, ◌-◌, true, false, nat_eq, get_or, refl}
use Rattle.std.specs.Prelude.{is_some}
use Rattle.std.specs.Map.{lookup}
use Rattle.restrictions.proofs.Noting.{once-first, once-last, once-next, once-twice, read-last}
use Rattle.restrictions.proofs.once.are_once.Goals as goal

pub loop-i-init : goal.loop-i-init
loop-i-init c = once-first c.args.keys.now _ _ refl c.new-seen.ensures

pub returns-then-is_some : goal.returns-then-is_some
returns-then-is_some c =
    let keys = c.args.keys.now in
    let k = get_or keys (c.loop-i.i - 1) 0 in
    let found = c.find.ensures in
    let tested = c.is_some.ensures in
    let holds = c.if-is_some.true in
    let h : is_some (lookup (nat_eq k) c.loop-i.seen) ≡ true = cc in
    once-twice keys c.loop-i.i k c.loop-i.seen c.loop-i.invariant c.loop-i-test.true (read-last keys c.loop-i.i _ _ c.loop-i.invariant.most c.loop-i-test.true) h

pub loop-i-preserved : goal.loop-i-preserved
loop-i-preserved c =
    let keys = c.args.keys.now in
    let k = get_or keys (c.loop-i.i - 1) 0 in
    let found = c.find.ensures in
    let tested = c.is_some.ensures in
    let fails = c.if-is_some.false in
    let h : is_some (lookup (nat_eq k) c.loop-i.seen) ≡ false = cc in
    once-next keys c.loop-i.i k c.loop-i.seen c.bind.new.self c.loop-i.invariant c.loop-i-test.true (read-last keys c.loop-i.i _ _ c.loop-i.invariant.most c.loop-i-test.true) h
    c.in_ok-bind.ensures.bound

pub returns : goal.returns
returns c = once-last c.args.keys.now c.loop-i.i c.loop-i.seen c.loop-i.invariant c.loop-i-test.false
