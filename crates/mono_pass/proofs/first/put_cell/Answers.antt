use Rattle.ty_core.specs.Types.{var}
use Rattle.mono_pass.proofs.Starting.{cell-is, variable-is, held-within, length-longer}
use Rattle.mono_pass.proofs.first.put_cell.Goals as goal

pub returns-clause-variable : goal.returns-clause-variable
returns-clause-variable c =
    let b = c.variable.new.self in
    variable-is b c.put_list.new.types c.put_pair.new.types c.in_ok-variable.variable c.put_list.ensures.earlier_stay c.put_pair.ensures.earlier_stay c.in_ok-variable.ensures.held
    (length-longer b c.put_list.new.types c.in_ok-variable.variable c.put_list.ensures.earlier_stay (held-within b c.in_ok-variable.variable (var 0) c.in_ok-variable.ensures.held))

pub returns-clause-argument : goal.returns-clause-argument
returns-clause-argument c =
    cell-is c.variable.new.self c.put_list.new.types c.put_pair.new.types c.in_ok-variable.variable c.in_ok-list.list c.in_ok-argument.argument c.put_list.ensures.earlier_stay c.put_pair.ensures.earlier_stay c.in_ok-variable.ensures.held c.in_ok-list.ensures.is c.in_ok-argument.ensures.is
