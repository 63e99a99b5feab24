use Rattle.std.proofs.Common.{drop}
use Rattle.mono_enter.specs.declared.steps.Turn.TheVariants as turn
use Rattle.mono_enter.proofs.Walking.{at-turn}
use Rattle.mono_enter.proofs.steps.take_turn.Goals as goal

pub returns-in_ok-go_in-in-Into : goal.returns-in_ok-go_in-in-Into
returns-in_ok-go_in-in-Into c =
    let ws = drop c.args.from c.args.words.now in
    at-turn c.args.turn (turn.Into c.in-Into.switch) ws c.args.stand.now c.go_in.new.stand c.in-Into.is (c.in_ok-go_in-in-Into.ensures ws)

pub returns-in_ok-go_in_group-in-Group : goal.returns-in_ok-go_in_group-in-Group
returns-in_ok-go_in_group-in-Group c =
    at-turn c.args.turn turn.Group (drop c.args.from c.args.words.now) c.args.stand.now c.go_in_group.new.stand c.in-Group.is c.in_ok-go_in_group-in-Group.ensures

pub returns-in-Out : goal.returns-in-Out
returns-in-Out c = let ws = drop c.args.from c.args.words.now in at-turn c.args.turn turn.Out ws c.args.stand.now c.go_out.new.stand c.in-Out.is (c.go_out.ensures ws)

pub returns-in-Body : goal.returns-in-Body
returns-in-Body c =
    let ws = drop c.args.from c.args.words.now in
    at-turn c.args.turn (turn.Body c.in-Body.others) ws c.args.stand.now c.go_on_in.new.stand c.in-Body.is (c.go_on_in.ensures ws)
