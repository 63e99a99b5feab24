use Rattle.std.proofs.Common.{refl}
use Rattle.std.specs.Option.{option_map}
use Rattle.ty_table.specs.TypeAt.{type_at}
use Rattle.ir_known.specs.declared.known.Known.TheVariants as known
use Rattle.ir_poly.specs.TestsChecked.{exception}
use Rattle.prog_known.proofs.OntoLemmas.{one-onto}
use Rattle.prog_leaves.proofs.exceptions.declare_exception.Goals as goal

pub returns-clause-right : goal.returns-clause-right
returns-clause-right c = c.in_ok-known.ensures.decided

pub returns-clause-adds : goal.returns-clause-adds
returns-clause-adds c = record {
  parameters = refl;
  onto = one-onto c.args.tables.now c.args.environment.now.variables c.bind.new.self c.args.variable (known.Exception c.args.argument)
      (exception (option_map (type_at c.args.tables.now.types) c.args.argument)) c.in_ok-bind.ensures refl;
}
