use Rattle.std.proofs.Common.{ap₂, arith}
use Rattle.basis_context.proofs.Making.{listed-all, listed-more, standard-at}
use Rattle.basis_context.proofs.basis.listed.Goals as goal

pub loop-i-init : goal.loop-i-init
loop-i-init c = c.new-entries.ensures.items

pub vid_of-requires : goal.vid_of-requires
vid_of-requires c = standard-at c.args.rows.now c.loop-i.i _ c.requires.words c.loop-i-test.true

pub loop-i-preserved : goal.loop-i-preserved
loop-i-preserved c =
    listed-more c.args.rows.now c.args.first c.loop-i.i _ c.loop-i.entries.items _ _ c.loop-i-test.true c.loop-i.invariant
    (ap₂ (λ v e. (v, e)) c.vid_of.ensures c.entry_of.ensures) c.in_ok-push.ensures.items

pub returns : goal.returns
returns c = listed-all c.args.rows.now c.args.first c.loop-i.i c.loop-i.entries.items (omega (arith, c.loop-i-test.false)) c.loop-i.invariant
