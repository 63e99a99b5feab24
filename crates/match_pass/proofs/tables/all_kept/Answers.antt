use Rattle.std.proofs.Common.{ap, refl}
use Rattle.ir_tables.specs.Rows.{constructors_at}
use Rattle.match_pass.proofs.Tabled.{rows-step, rows-end}
use Rattle.match_pass.proofs.tables.all_kept.Goals as goal

pub loop-i-init : goal.loop-i-init
loop-i-init c = λ old new e grown is. ap (constructors_at new) c.new-made.ensures

pub loop-i-preserved : goal.loop-i-preserved
loop-i-preserved c = λ old new e grown is.
    rows-step old new c.args.rows.now c.loop-i.made _ c.loop-i.i _ _ c.loop-i-test.true (c.loop-i.invariant old new e grown is) refl refl (c.kept.ensures old new e grown is) c.in_ok-push.ensures.ok

pub returns : goal.returns
returns c = λ old new e grown is. rows-end old new c.args.rows.now c.loop-i.made c.loop-i.i c.loop-i-test.false (c.loop-i.invariant old new e grown is)
