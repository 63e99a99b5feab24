use Rattle.std.proofs.Common.{Some, add-one, sym, ap₂, ◌∙◌}
use Rattle.final_types.specs.Bounds.{wider_of}
use Rattle.final_types.proofs.Bounding.{widest-next}
use Rattle.final_types.proofs.bound.parts_bound.Goals as goal

pub loop-i-preserved : goal.loop-i-preserved
loop-i-preserved c = c.wider-bound.ensures ∙ ap₂ wider_of c.loop-i.invariant c.bound_at.ensures ∙ rw add-one (sym (widest-next c.args.bounds.now (Some c.args.least) c.args.parts.now c.loop-i.i _ c.loop-i-test.true))
