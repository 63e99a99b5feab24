use Rattle.std.proofs.Common.{◌∙◌}
use Rattle.ty_core.specs.Types.{var}
use Rattle.ty_solve.proofs.Holding.{type-stays}
use Rattle.ty_instance.proofs.Going.{stays-on}
use Rattle.final_types.specs.Nodes.{types_of}
use Rattle.final_types.proofs.Entering.{entered-grown, entered-reads}
use Rattle.final_types.proofs.Stepping.{get-below, get-is}
use Rattle.final_types.proofs.finish.enter_types.Goals as goal

pub returns-clause-numbers : goal.returns-clause-numbers
returns-clause-numbers c = λ g end.
    entered-reads (types_of c.args.solver.now) c.apply.new.self c.args.namings.now g c.args.written.now c.in_ok-numbers.numbers.items c.in_ok-other.other
    (entered-grown (types_of c.args.solver.now) c.enter_all.new.types c.apply.new.self c.args.namings.now g c.args.written.now c.in_ok-numbers.numbers.items
    (stays-on c.enter_all.new.types c.variable.new.self c.apply.new.self c.in_ok-other.ensures.earlier_stay c.in_ok-exn.ensures.earlier_stay) (c.in_ok-numbers.ensures.entered g end))
    (type-stays c.variable.new.self c.apply.new.self c.in_ok-other.other c.in_ok-exn.ensures.earlier_stay (get-below c.variable.new.self c.in_ok-other.other (var 0) c.in_ok-other.ensures.held)
    ∙ get-is c.variable.new.self c.in_ok-other.other (var 0) c.in_ok-other.ensures.held)

pub returns-clause-exn : goal.returns-clause-exn
returns-clause-exn c = get-is c.apply.new.self c.in_ok-exn.exn _ c.in_ok-exn.ensures.held
