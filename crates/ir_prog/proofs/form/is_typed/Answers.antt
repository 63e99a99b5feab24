use Rattle.std.proofs.Common.{ap, ◌∙◌}
use Rattle.prog_exps.specs.of_prog_leaves.Right.{decs_right}
use Rattle.ir_prog.proofs.Formed.{typed-is}
use Rattle.ir_prog.proofs.form.is_typed.Goals as goal

pub returns : goal.returns
returns c = c.in_ok-so.ensures.right ∙ ap (decs_right c.args.program.now.tables c.new-environment.result) c.deref.ensures.value
    ∙ typed-is c.args.program.now.tables c.new-environment.result c.args.program.now.body.items c.new-environment.ensures.parameters c.new-environment.ensures.variables
