use Rattle.ty_solve.specs.Walk.{LooksUnder}
use Rattle.ty_solve.proofs.walk.look_under.Goals as goal

pub returns-in_ok-push-in-Some : goal.returns-in_ok-push-in-Some
returns-in_ok-push-in-Some c = LooksUnder.stands c.in-Some.u c.in-Some.ensures.is c.in_ok-push-in-Some.ensures.items

pub returns-in_ok-look_in_row-in-None : goal.returns-in_ok-look_in_row-in-None
returns-in_ok-look_in_row-in-None c = LooksUnder.others c.in_ok-look_in_row-in-None.ensures
