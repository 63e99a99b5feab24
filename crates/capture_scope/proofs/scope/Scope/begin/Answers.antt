use Rattle.capture_scope.proofs.Seen.{all-left, begun}
use Rattle.capture_scope.proofs.Repeating.{twice-passed, parameter-twice}
use Rattle.capture_scope.proofs.scope.Scope.begin.Goals as goal

pub returns-clause-ok : goal.returns-clause-ok
returns-clause-ok c = begun c.args.parameter c.args.self.now c.leave_to.new.self c.add.new.self c.leave_to.ensures c.in_ok-add.ensures.ok

pub returns-in_err-add-clause-twice : goal.returns-in_err-add-clause-twice
returns-in_err-add-clause-twice c =
    twice-passed c.from_residual.result c.in_err-add.field-0.0 c.from_residual.ensures.1 _ _
    (parameter-twice c.args.self.now.captured c.args.self.now.group c.args.parameter c.leave_to.new.self (all-left c.args.self.now c.leave_to.new.self c.leave_to.ensures)) c.in_err-add.ensures.twice
