use Rattle.std.proofs.Common.{None, take}
use Rattle.std.specs.Prelude.{option_map}
use Rattle.ty_table.specs.TypeAt.{type_at}
use Rattle.datatype_forms.specs.Arguments.{row_at}
use Rattle.datatype_forms.proofs.Best.{over_next}
use Rattle.datatype_forms.proofs.Collecting.{taken_at}
use Rattle.datatype_forms.proofs.in_use.check_row.Goals as goal

pub loop-i-init : goal.loop-i-init
loop-i-init c = record { over = tt; right = c.requires }

pub loop-i-preserved : goal.loop-i-preserved
loop-i-preserved c = record {
  over =
      over_next c.args.names.now.limit (row_at c.args.types.now (take c.loop-i.i c.args.row.now)) _ _ c.loop-i.invariant.over c.in_ok-check_argument.ensures.over
      (taken_at (option_map (type_at c.args.types.now)) c.args.row.now c.loop-i.i None c.loop-i-test.true);
  right = c.in_ok-check_argument.ensures.right;
}
