use Rattle.std.proofs.Common.{subst}
use Rattle.ty_core.specs.Marks.{Allows}
use Rattle.ty_core.specs.declared.mark.Mark.{Mark}
use Rattle.ty_core.proofs.Classes.{empty-meet}
use Rattle.ty_core.proofs.mark.meet.Goals as goal

pub returns-then-is_empty-clause-nothing_in_common : goal.returns-then-is_empty-clause-nothing_in_common
returns-then-is_empty-clause-nothing_in_common c = λ m t p q. empty-meet (Mark.Class c.in-Class.class) (Mark.Class c.in-Class-other-2.another) c.common-both.result c.common-both.ensures.meets (c.is_empty.ensures.0 c.if-is_empty.true) m t (subst (λ k. Allows k m t) c.in-Class.is p) (subst (λ k. Allows k m t) c.in-Class-other-2.is q)
