use Rattle.std.proofs.Common.{◌↔◌, IsTrue, subst, ◌∙◌, ap}
use Rattle.std.specs.List.{AllByRecursion}
use Rattle.ty_solve.proofs.Turns.{ok-such}
use Rattle.open_variables.specs.Open.{AreDone}
use Rattle.run_end.specs.Settled.{IsSettledType, IsSettled, types_brought}
use Rattle.run_end.proofs.Settling.{all-settled}
use Rattle.run_end.proofs.settled.is_settled.Goals as goal

pub returns : goal.returns
returns c =
    let S = c.args.state.now in
    let ks = c.in_ok-types.types.items in
    let e = c.in_ok-types.ensures ∙ ap types_brought c.deref.ensures.value in
    ok-such (λ b. IsTrue b ↔ AreDone S.solver ks) (λ b. IsTrue b ↔ IsSettled S c.args.brought.now) c.are_done.result
    (λ b h. subst (λ l. IsTrue b ↔ AllByRecursion (IsSettledType S) l) e (all-settled S S.level c.requires b ks h)) c.are_done.ensures
