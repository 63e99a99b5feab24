use Rattle.std.proofs.Common.{map, sym, ap, ◌∙◌}
use Rattle.std.specs.Option.{option_map}
use Rattle.ty_table.specs.TypeAt.{type_at}
use Rattle.ir_known.specs.Knows.{known_of}
use Rattle.ir_tables.specs.Tables.{parameters_of}
use Rattle.prog_pats.proofs.of_ir_uses.Knowing.{at-knowns}
use Rattle.prog_known.specs.Environments.{parameters_in}
use Rattle.prog_check.specs.Deciding.{is_use}
use Rattle.prog_leaves.proofs.atoms.check_variable.Goals as goal

pub returns : goal.returns
returns c =
    let T = c.args.tables.now in
    c.in_ok-so.ensures
    ∙ ap (λ k. is_use (parameters_in c.args.environment.now) (map (type_at T.types) c.args.ts.now) (type_at T.types c.args.ty) (option_map (known_of T.types (parameters_of T)) k)) c.find-known.ensures
    ∙ ap (is_use (parameters_in c.args.environment.now) (map (type_at T.types) c.args.ts.now) (type_at T.types c.args.ty))
    (sym (at-knowns T.types (parameters_of T) c.args.environment.now.variables c.args.variable))
