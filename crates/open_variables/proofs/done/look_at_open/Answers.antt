use Rattle.std.proofs.Common.{tests, rules, ◌≡◌, true}
use Rattle.open_variables.specs.Open.{is_done_in}
use Rattle.open_variables.proofs.done.look_at_open.Goals as goal

pub returns : goal.returns
returns c = let d : is_done_in c.args.solver.now c.args.v ≡ true = search (rules, tests) in record { looks = c.in_ok-look_in_row.ensures; done = d }
