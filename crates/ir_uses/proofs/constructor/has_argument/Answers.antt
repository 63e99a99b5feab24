use Rattle.std.proofs.Common.{ap, map, ◌∙◌}
use Rattle.std.specs.Option.{option_map}
use Rattle.ty_table.specs.TypeAt.{type_at}
use Rattle.ir_known.specs.of_ir_poly.Types.{argument_at}
use Rattle.ir_uses.specs.Uses.{table_at}
use Rattle.ir_uses.specs.Rows.{argument_type}
use Rattle.ir_uses.proofs.Constructing.{has-found, has-none, has-no-name}
use Rattle.ir_uses.proofs.constructor.has_argument.Goals as goal

pub returns-in_ok-yes-in-Some-find_argument : goal.returns-in_ok-yes-in-Some-find_argument
returns-in_ok-yes-in-Some-find_argument c = has-found (table_at c.args.tables.now) c.args.constructor c.args.tables.now.types (type_at c.args.tables.now.types c.args.t) c.in-Some.datatype c.in-Some.parts.now
    (argument_at (map (type_at c.args.tables.now.types) c.in-Some.parts.now) (argument_type c.args.tables.now.types c.in-Some-find_argument.found)) (option_map (type_at c.args.tables.now.types) c.args.argument) c.in_ok-yes-in-Some-find_argument.yes c.in-Some.ensures
    (c.find_argument.ensures (map (type_at c.args.tables.now.types) c.in-Some.parts.now)
    ∙ ap (option_map (λ a. argument_at (map (type_at c.args.tables.now.types) c.in-Some.parts.now) (argument_type c.args.tables.now.types a))) c.in-Some-find_argument.is) c.in_ok-yes-in-Some-find_argument.ensures

pub returns-in-None-find_argument : goal.returns-in-None-find_argument
returns-in-None-find_argument c = has-none (table_at c.args.tables.now) c.args.constructor c.args.tables.now.types (type_at c.args.tables.now.types c.args.t) c.in-Some.datatype c.in-Some.parts.now (option_map (type_at c.args.tables.now.types) c.args.argument) c.in-Some.ensures
    (c.find_argument.ensures (map (type_at c.args.tables.now.types) c.in-Some.parts.now)
    ∙ ap (option_map (λ a. argument_at (map (type_at c.args.tables.now.types) c.in-Some.parts.now) (argument_type c.args.tables.now.types a))) c.in-None-find_argument.is)

pub returns-in-None : goal.returns-in-None
returns-in-None c = has-no-name (table_at c.args.tables.now) c.args.constructor (type_at c.args.tables.now.types c.args.t) (option_map (type_at c.args.tables.now.types) c.args.argument) c.in-None.ensures
