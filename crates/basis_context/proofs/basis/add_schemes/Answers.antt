use Rattle.std.proofs.Common.{refl, sym, arith}
use Rattle.std.proofs.lemmas.List.{append-nil}
use Rattle.basis_context.proofs.Making.{constructors-all, constructors-more, marks-more, marks-all}
use Rattle.basis_context.proofs.basis.add_schemes.Goals as goal

pub loop-i-init : goal.loop-i-init
loop-i-init c = (sym (append-nil _), sym (append-nil _))

pub loop-i-preserved : goal.loop-i-preserved
loop-i-preserved c = (
  marks-more c.args.added.now c.loop-i.i _ c.args.schemes.now.items c.loop-i.schemes.items _ _ c.in_ok-marks.marks.items c.loop-i-test.true c.loop-i.invariant.0 refl c.in_ok-marks.ensures refl c.in_ok-push.ensures.items,
  constructors-more c.args.rows.now c.loop-i.i _ c.args.schemes.now.items c.loop-i.schemes.items _ _ (omega (arith, c.loop-i-test.true, c.requires)) c.loop-i.invariant.1 c.constructor_of.ensures c.in_ok-push.ensures.items,
)

pub returns-clause-marks : goal.returns-clause-marks
returns-clause-marks c = marks-all c.args.added.now c.loop-i.i c.args.schemes.now.items c.loop-i.schemes.items (omega arith) c.loop-i.invariant.0

pub returns-clause-constructors : goal.returns-clause-constructors
returns-clause-constructors c = constructors-all c.args.rows.now c.loop-i.i c.args.schemes.now.items c.loop-i.schemes.items (omega (arith, c.requires)) c.loop-i.invariant.1
