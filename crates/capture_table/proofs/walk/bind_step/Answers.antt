use Rattle.std.proofs.Common.{map, ap, refl, ◌∙◌}
use Rattle.closure_convert.specs.Scope.{names}
use Rattle.closure_convert.specs.Capture.{visible}
use Rattle.capture_scope.specs.Seen.{members_of}
use Rattle.capture_scope.proofs.Repeating.{twice-kept}
use Rattle.capture_table.specs.Told.{members_told, function_told}
use Rattle.capture_table.proofs.StepBinds.{fn-binds, block-binds, handle-binds, group-binds, test-binds}
use Rattle.capture_table.proofs.walk.bind_step.Goals as goal

pub returns-in-Fn-clause-twice : goal.returns-in-Fn-clause-twice
returns-in-Fn-clause-twice c = twice-kept c.add-in-Fn.result _ _ (fn-binds (visible c.args.scope.now) c.args.step.now c.in-Fn.binding c.in-Fn.parameters c.in-Fn.last c.in-Fn.body _ c.in-Fn.is refl) c.add-in-Fn.ensures.twice

pub returns-in-Block-clause-twice : goal.returns-in-Block-clause-twice
returns-in-Block-clause-twice c = twice-kept c.add-in-Block.result _ _ (block-binds (visible c.args.scope.now) c.args.step.now c.in-Block.binding c.in-Block.field-1 _ c.in-Block.is refl) c.add-in-Block.ensures.twice

pub returns-in-Handle-clause-twice : goal.returns-in-Handle-clause-twice
returns-in-Handle-clause-twice c =
    twice-kept c.add-in-Handle.result _ _ (handle-binds (visible c.args.scope.now) c.args.step.now c.in-Handle.binding c.in-Handle.body c.in-Handle.packet c.in-Handle.handler _ c.in-Handle.is refl) c.add-in-Handle.ensures.twice

pub returns-in_ok-members-in-Group-clause-twice : goal.returns-in_ok-members-in-Group-clause-twice
returns-in_ok-members-in-Group-clause-twice c =
    twice-kept c.bind_group.result _ _
    (group-binds (visible c.args.scope.now) c.args.step.now c.in-Group.field-0 c.in-Group.functions _ c.in-Group.is
    (ap (λ l. names (members_of l)) c.deref-in-Group.ensures.value ∙ ap names c.in_ok-members-in-Group.ensures ∙ ap (λ l. names (members_told (map function_told l))) c.deref.ensures.value)) c.bind_group.ensures.twice

pub returns-in-Test-clause-twice : goal.returns-in-Test-clause-twice
returns-in-Test-clause-twice c = twice-kept c.bind_case.result _ _ (test-binds (visible c.args.scope.now) c.args.step.now c.in-Test.atom c.in-Test.ty c.in-Test.case c.in-Test.others _ c.in-Test.is refl) c.bind_case.ensures.twice
