use Rattle.std.proofs.Common.{sym, ap, ◌∙◌}
use Rattle.std.specs.Option.{option_map}
use Rattle.ty_table.specs.TypeAt.{type_at}
use Rattle.prog_check.specs.Deciding.{is_exception}
use Rattle.prog_leaves.proofs.atoms.is_exception.Goals as goal

pub returns-in-Some : goal.returns-in-Some
returns-in-Some c = c.is_exception_value.ensures.decided
    ∙ ap (is_exception (type_at c.args.tables.now.types c.args.ty)) (sym (c.argument_of.ensures c.args.tables.now ∙ ap (option_map (option_map (type_at c.args.tables.now.types))) c.in-Some.is))

pub returns-in-None : goal.returns-in-None
returns-in-None c =
    ap (is_exception (type_at c.args.tables.now.types c.args.ty)) (sym (c.argument_of.ensures c.args.tables.now ∙ ap (option_map (option_map (type_at c.args.tables.now.types))) c.in-None.is))
