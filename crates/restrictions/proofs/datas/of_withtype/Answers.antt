use Rattle.std.proofs.Common.{arith}
use Rattle.restrictions.proofs.Declared.{withtype-grew, withtype-kept}
use Rattle.restrictions.proofs.Standing.{if-ok}
use Rattle.restrictions.proofs.datas.of_withtype.Goals as goal

pub returns-then-len-before : goal.returns-then-len-before
returns-then-len-before c =
    let old = c.args.found.now.ok.0 in
    let new = c.of_types.new.found.ok.0 in
    let before = c.len-before.ensures in
    let after = c.len.ensures in
    let lt = c.if-len-before.true in
    withtype-grew c.args.place c.args.binds.now c.args.types.now c.args.found.now.items c.of_types.new.found.items c.in_ok-of_types.ensures (omega (arith, old, new, before, after, lt))

pub returns : goal.returns
returns c =
    let old = c.args.found.now.ok.0 in
    let new = c.of_types.new.found.ok.0 in
    let before = c.len-before.ensures in
    let after = c.len.ensures in
    let le = c.if-len-before.false in
    if-ok c.of_both.result
    (λ u k.
    withtype-kept c.args.place c.args.binds.now c.args.types.now c.args.found.now.items c.of_types.new.found.items _ c.in_ok-of_types.ensures (omega (arith, old, new, before, after, le)) k)
    c.of_both.ensures
