use Rattle.std.proofs.Common.{sym, ap, ◌∙◌}
use Rattle.std.specs.Option.{option_map}
use Rattle.ty_table.specs.TypeAt.{type_at}
use Rattle.prog_check.specs.Deciding.{takes}
use Rattle.prog_pats.proofs.Rows.{as-option}
use Rattle.prog_pats.proofs.exceptions.takes.Goals as goal

pub returns-in-Some : goal.returns-in-Some
returns-in-Some c =
    as-option c.same_argument.result (option_map (type_at c.args.tables.now.types) c.in-Some.found) (option_map (type_at c.args.tables.now.types) c.args.argument) c.same_argument.ensures
    ∙ sym (ap (takes (option_map (type_at c.args.tables.now.types) c.args.argument)) (c.argument_of.ensures c.args.tables.now ∙ ap (option_map (option_map (type_at c.args.tables.now.types))) c.in-Some.is))

pub returns-in-None : goal.returns-in-None
returns-in-None c =
    sym (ap (takes (option_map (type_at c.args.tables.now.types) c.args.argument)) (c.argument_of.ensures c.args.tables.now ∙ ap (option_map (option_map (type_at c.args.tables.now.types))) c.in-None.is))
