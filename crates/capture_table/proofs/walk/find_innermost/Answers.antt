use Rattle.std.proofs.Common.{ap, refl, ◌∙◌}
use Rattle.plain_tree.specs.Sums.{variables_of}
use Rattle.closure_convert.specs.Capture.{visible}
use Rattle.capture_scope.proofs.Repeating.{twice-passed}
use Rattle.capture_table.specs.Levels.{used}
use Rattle.capture_table.proofs.Levels.{bound-next, bound-all}
use Rattle.capture_table.proofs.Twice.{behind-none, parameter-twice}
use Rattle.capture_table.proofs.walk.find_innermost.Goals as goal

pub loop-i-init : goal.loop-i-init
loop-i-init c = ap visible c.in_ok-scope.ensures.ok

pub loop-i-preserved : goal.loop-i-preserved
loop-i-preserved c = bound-next c.args.captured.now c.args.parameters.now c.loop-i.i _ (record { variable = 0; ty = 0 }) c.loop-i.scope c.add.new.self c.loop-i-test.true refl c.in_ok-add.ensures.ok c.loop-i.invariant

pub returns-clause-used : goal.returns-clause-used
returns-clause-used c = c.in_ok-all.ensures.kept ∙ ap (used c.args.uses.now) (bound-all c.args.captured.now c.args.parameters.now c.loop-i.i c.loop-i.scope c.loop-i-test.false c.loop-i.invariant)

pub returns-in_err-scope-clause-twice : goal.returns-in_err-scope-clause-twice
returns-in_err-scope-clause-twice c =
    twice-passed c.from_residual.result c.in_err-scope.field-0.0 c.from_residual.ensures.1 _ _
    (behind-none c.args.captured.now (variables_of c.args.parameters.now)) c.in_err-scope.ensures.twice

pub returns-in_err-add-clause-twice : goal.returns-in_err-add-clause-twice
returns-in_err-add-clause-twice c =
    twice-passed c.from_residual-in_err-add.result c.in_err-add.field-0.0 c.from_residual-in_err-add.ensures.1 _ _
    (parameter-twice c.args.captured.now c.args.parameters.now c.loop-i.i _ (record { variable = 0; ty = 0 }) c.loop-i.scope c.loop-i-test.true refl c.loop-i.invariant) c.in_err-add.ensures.twice
