use Rattle.std.proofs.Common.{sym, ap, ◌∙◌}
use Rattle.std.specs.Map.{lookup}
use Rattle.std.specs.Option.{option_map}
use Rattle.ty_table.specs.TypeAt.{type_at}
use Rattle.ir_values.specs.Values.{same_label}
use Rattle.prog_check.specs.Deciding.{row_in}
use Rattle.prog_parts.proofs.Truths.{as-same}
use Rattle.prog_pats.proofs.Rows.{part-some, part-none}
use Rattle.prog_pats.proofs.records.has_part.Goals as goal

pub returns-in-Some : goal.returns-in-Some
returns-in-Some c = part-some (lookup (same_label c.args.label)) (type_at c.args.types.now c.args.ty) (row_in (type_at c.args.types.now c.args.row)) (type_at c.args.types.now c.in-Some.found) c.same_type.result
    (ap (option_map (type_at c.args.types.now)) (sym c.in-Some.is) ∙ c.field_of.ensures)
    (as-same c.same_type.result (type_at c.args.types.now c.in-Some.found) (type_at c.args.types.now c.args.ty) c.same_type.ensures)

pub returns-in-None : goal.returns-in-None
returns-in-None c = part-none (lookup (same_label c.args.label)) (type_at c.args.types.now c.args.ty) (row_in (type_at c.args.types.now c.args.row))
    (ap (option_map (type_at c.args.types.now)) (sym c.in-None.is) ∙ c.field_of.ensures)
