use Rattle.mono_operations.specs.Reads.{local}
use Rattle.mono_operations.proofs.Scopes.{labels-differ, parts-differ}
use Rattle.mono_operations.proofs.atom.fields_fit.Goals as goal

pub returns-then-fields-labels : goal.returns-then-fields-labels
returns-then-fields-labels c = λ t. labels-differ t (local c.args.scope.now) c.args.fields.now c.args.labels.now c.args.parts.now c.if-fields-labels.true

pub returns-then-fields-parts : goal.returns-then-fields-parts
returns-then-fields-parts c = λ t. parts-differ t (local c.args.scope.now) c.args.fields.now c.args.labels.now c.args.parts.now c.if-fields-parts.true
