use Rattle.closure_parts.specs.Indexed.{AreFound, label_keys}
use Rattle.closure_parts.proofs.places.all_labels.Given as goal

abbrev pub invariant-loop-ty : goal.invariant-loop-ty
invariant-loop-ty l = AreFound l.found.items l.ty (label_keys l.types)
