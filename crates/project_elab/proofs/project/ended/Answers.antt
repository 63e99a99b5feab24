use Rattle.std.proofs.Common.{refl}
use Rattle.project_elab.proofs.project.ended.Goals as goal

pub are_ordered-requires : goal.are_ordered-requires
are_ordered-requires c = c.if-not-are_settled.ensures.settled refl
