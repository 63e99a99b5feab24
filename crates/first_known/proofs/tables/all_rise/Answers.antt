use Rattle.first_known.proofs.Flags.{all-ends}
use Rattle.first_values.specs.WellFormed.{Rise}
use Rattle.first_tables.specs.TablesOf.{set_of}
use Rattle.first_known.proofs.tables.all_rise.Goals as goal

pub returns : goal.returns
returns c = all-ends Rise set_of c.args.sets.now c.loop-i.i c.loop-i.all c.loop-i-test.false c.loop-i.invariant
