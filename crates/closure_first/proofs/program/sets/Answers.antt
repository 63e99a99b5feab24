use Rattle.closure_bodies.proofs.of_closure_parts.Operating.{if-ok}
use Rattle.closure_first.proofs.Listing.{sets-are}
use Rattle.closure_first.proofs.program.sets.Goals as goal

pub returns : goal.returns
returns c =
    if-ok _ _ c.all_sets.result
    (λ made p types strings n F T h. sets-are n c.args.setting.now.flow.sets.items c.deref.result.now made.items F c.deref.ensures.value h.flow.sets (p types strings n F T h)) c.all_sets.ensures
