use Rattle.std.specs.Option.{option_map}
use Rattle.ty_table.specs.TypeAt.{type_at}
use Rattle.ir_uses.specs.Uses.{table_at}
use Rattle.ir_uses.proofs.Constructing.{has-fits, has-decided}
use Rattle.ir_uses.proofs.constructor.has_constructor.Goals as goal

pub returns-clause-fits : goal.returns-clause-fits
returns-clause-fits c = has-fits (table_at c.args.tables.now) c.args.constructor (type_at c.args.tables.now.types c.args.t) (option_map (type_at c.args.tables.now.types) c.args.argument) c.in_ok-yes.yes c.in_ok-yes.ensures

pub returns-clause-decided : goal.returns-clause-decided
returns-clause-decided c = has-decided (table_at c.args.tables.now) c.args.constructor (type_at c.args.tables.now.types c.args.t) (option_map (type_at c.args.tables.now.types) c.args.argument) c.in_ok-yes.yes c.in_ok-yes.ensures
