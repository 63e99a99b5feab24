use Rattle.std.specs.Option.{option_map}
use Rattle.ty_table.specs.TypeAt.{type_at}
use Rattle.ir_known.specs.of_ir_poly.TestsChecked.{value_type}
use Rattle.ir_uses.proofs.Deciding.{same-decided}
use Rattle.ir_uses.proofs.exception.is_exception_value.Goals as goal

pub returns-clause-decided : goal.returns-clause-decided
returns-clause-decided c = same-decided c.is_value_with.result (type_at c.args.types.now c.args.t) (value_type (option_map (type_at c.args.types.now) c.args.argument)) c.is_value_with.ensures
