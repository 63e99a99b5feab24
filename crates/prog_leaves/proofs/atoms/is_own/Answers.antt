use Rattle.std.proofs.Common.{sym, ap, ◌∙◌}
use Rattle.std.specs.Option.{option_map}
use Rattle.ty_table.specs.TypeAt.{type_at}
use Rattle.ir_known.specs.Knows.{known_of}
use Rattle.ir_tables.specs.Tables.{parameters_of}
use Rattle.prog_pats.proofs.of_ir_uses.Knowing.{at-knowns}
use Rattle.prog_check.specs.Deciding.{is_own}
use Rattle.prog_leaves.proofs.atoms.is_own.Goals as goal

pub returns : goal.returns
returns c =
    let T = c.args.tables.now in
    c.is_own_use.ensures ∙ ap (λ k. is_own (type_at T.types c.args.ty) (option_map (known_of T.types (parameters_of T)) k)) c.find.ensures
    ∙ ap (is_own (type_at T.types c.args.ty)) (sym (at-knowns T.types (parameters_of T) c.args.environment.now.variables c.args.variable))
