use Rattle.std.proofs.Common.{◌++◌, ◌∷◌, [], ap, ◌∙◌}
use Rattle.closure_convert.specs.Scope.{names, add}
use Rattle.capture_scope.specs.Seen.{members_of}
use Rattle.capture_scope.proofs.Repeating.{twice-passed, front-repeats, parameter-twice}
use Rattle.capture_scope.proofs.scope.Scope.enter.Goals as goal

pub returns-clause-ok : goal.returns-clause-ok
returns-clause-ok c = c.in_ok-add.ensures.ok ∙ ap (add c.args.parameter) c.in_ok-scope.ensures.ok

pub returns-in_err-scope-clause-twice : goal.returns-in_err-scope-clause-twice
returns-in_err-scope-clause-twice c =
    twice-passed c.from_residual.result c.in_err-scope.field-0.0 c.from_residual.ensures.1 _ _
    (front-repeats (c.args.captured.now ++ names (members_of c.args.group.now)) (c.args.parameter ∷ [])) c.in_err-scope.ensures.twice

pub returns-in_err-add-clause-twice : goal.returns-in_err-add-clause-twice
returns-in_err-add-clause-twice c =
    twice-passed c.from_residual-in_err-add.result c.in_err-add.field-0.0 c.from_residual-in_err-add.ensures.1 _ _
    (parameter-twice c.args.captured.now (members_of c.args.group.now) c.args.parameter c.in_ok-scope.scope c.in_ok-scope.ensures.ok) c.in_err-add.ensures.twice
