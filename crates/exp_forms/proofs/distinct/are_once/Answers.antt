use Rattle.std.proofs.Common.{◌≡◌, true, false, subst, sym}
use Rattle.std.specs.Prelude.{is_some}
use Rattle.vid_scope.specs.Entries.{HasLatest, entry_of}
use Rattle.pat_elab.specs.declared.bound.BoundVariable.{BoundVariable}
use Rattle.exp_forms.proofs.Once.{once-twice-at, one-more-at}
use Rattle.exp_forms.proofs.distinct.are_once.Goals as goal

pub returns-then-is_some : goal.returns-then-is_some
returns-then-is_some c =
    let found = c.find.ensures in
    let tested = c.is_some.ensures in
    let yes = c.if-is_some.true in
    let h : is_some (entry_of c.loop-i.seen c.index-bound-i.result.vid) ≡ true = cc in
    sym (once-twice-at c.args.bound.now c.loop-i.i c.index-bound-i.result c.loop-i.seen c.loop-i-test.true c.loop-i.invariant c.index-bound-i.is h)

pub loop-i-preserved : goal.loop-i-preserved
loop-i-preserved c =
    let found = c.find.ensures in
    let tested = c.is_some.ensures in
    let no = c.if-is_some.false in
    let h : is_some (entry_of c.loop-i.seen c.index-bound-i.result.vid) ≡ false = cc in
    one-more-at c.args.bound.now c.loop-i.i c.index-bound-i.result c.loop-i.seen c.bind.new.self c.loop-i-test.true c.loop-i.invariant c.index-bound-i.is h
    (subst (λ (z : BoundVariable). HasLatest c.loop-i.seen z.vid true c.bind.new.self) (sym c.index-bound-i.is) c.in_ok-bind.ensures.found)
