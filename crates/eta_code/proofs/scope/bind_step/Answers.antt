use Rattle.eta_code.proofs.Nodes.{group-binds}
use Rattle.eta_parts.proofs.Alone.{if-ok}
use Rattle.eta_code.proofs.scope.bind_step.Goals as goal

pub returns-in-Group : goal.returns-in-Group
returns-in-Group c =
    if-ok _ _ c.bind_functions.result (λ u h types strings. group-binds types strings c.args.step.now c.in-Group.field-0 c.in-Group.functions c.deref.result.now c.args.names.now c.bind_functions.new.names c.in-Group.is c.deref.ensures.value h) c.bind_functions.ensures
