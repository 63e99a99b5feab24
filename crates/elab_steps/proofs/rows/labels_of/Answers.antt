use Rattle.std.proofs.Common.{arith}
use Rattle.label_rows.specs.declared.sort.Field.{Field}
use Rattle.elab_steps.proofs.Sorting.{column}
use Rattle.elab_steps.proofs.rows.labels_of.Goals as goal

pub returns : goal.returns
returns c = column (λ (f : Field). f.label) c.args.fields.now c.loop-i.i c.loop-i.labels.items (omega arith) c.loop-i.invariant
