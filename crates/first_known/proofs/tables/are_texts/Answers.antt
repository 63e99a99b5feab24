use Rattle.first_known.proofs.Flags.{all-ends}
use Rattle.std.specs.List.{AllByRecursion}
use Rattle.first_tables.specs.TablesOf.{items_of}
use Rattle.first_known.specs.Rows.{IsBelow}
use Rattle.first_known.proofs.tables.are_texts.Goals as goal

pub returns : goal.returns
returns c = all-ends (AllByRecursion (IsBelow 256)) items_of c.args.strings.now c.loop-i.i c.loop-i.all c.loop-i-test.false c.loop-i.invariant
