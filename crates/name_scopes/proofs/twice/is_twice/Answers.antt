use Rattle.std.proofs.Common.{◌≡◌, true}
use Rattle.std.specs.Prelude.{is_some}
use Rattle.vid_scope.specs.Entries.{entry_of}
use Rattle.name_scopes.proofs.Once.{one-more-at, seen-twice-at}
use Rattle.name_scopes.proofs.twice.is_twice.Goals as goal

pub returns-then-is_some : goal.returns-then-is_some
returns-then-is_some c u =
    let found = c.find.ensures in
    let tested = c.is_some.ensures in
    let yes = c.if-is_some.true in
    let h : is_some (entry_of c.loop-i.seen c.index-vids-i.result) ≡ true = cc in
    seen-twice-at c.args.vids.now c.loop-i.i c.index-vids-i.result c.loop-i.seen c.loop-i-test.true c.loop-i.invariant c.index-vids-i.is h

pub loop-i-preserved : goal.loop-i-preserved
loop-i-preserved c =
    one-more-at c.args.vids.now c.loop-i.i c.index-vids-i.result c.loop-i.seen c.bind.new.self c.loop-i-test.true c.loop-i.invariant c.index-vids-i.is c.in_ok-bind.ensures.found
