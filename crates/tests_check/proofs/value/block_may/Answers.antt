use Rattle.std.proofs.Common.{◌∙◌}
use Rattle.ir_plain.specs.Tree as clean
use Rattle.ir_tables.specs.Tables.{parameters_of, parameters_at}
use Rattle.plain_tree.specs.TreeOf.{tree_of}
use Rattle.tests_check.specs.Reads.{reading}
use Rattle.tests_check.proofs.Values.{some-may, not-empty}
use Rattle.tests_check.proofs.value.block_may.Goals as goal

pub returns-else-is_empty : goal.returns-else-is_empty
returns-else-is_empty c = some-may (parameters_at (parameters_of c.args.tables.now) c.args.parameters) (clean.block (tree_of (reading c.args.tables.now) c.args.body.now))
    (not-empty c.parameters.result.now (parameters_at (parameters_of c.args.tables.now) c.args.parameters) c.is_empty.result c.is_empty.ensures c.if-is_empty.false c.parameters.ensures) ∙ c.is_value.ensures c.args.tables.now
