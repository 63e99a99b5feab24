use Rattle.closure_parts.proofs.Operating.{if-ok}
use Rattle.closure_steps.proofs.Members.{group-behind}
use Rattle.closure_steps.proofs.scope.bind_step.Goals as goal

pub returns-in_ok-members-in-Group : goal.returns-in_ok-members-in-Group
returns-in_ok-members-in-Group c =
    if-ok _ _ c.bind_group.result
    (λ u h types strings.
    group-behind types strings c.args.step.now c.in-Group.field-0 c.in-Group.functions c.deref.result.now c.in_ok-members-in-Group.members.items c.deref-in-Group.result.now c.args.scope.now c.bind_group.new.scope c.in-Group.is
    c.deref.ensures.value (c.in_ok-members-in-Group.ensures types strings) c.deref-in-Group.ensures.value h)
    c.bind_group.ensures
