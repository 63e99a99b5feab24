use Rattle.closure_parts.specs.Indexed.{AreFound, constructor_numbers}
use Rattle.closure_parts.proofs.places.all_tags.Given as goal

abbrev pub invariant-loop-ty : goal.invariant-loop-ty
invariant-loop-ty l = AreFound l.found.items l.ty (constructor_numbers l.types)
