use Rattle.std.proofs.Common.{None, drop}
use Rattle.mono_number.proofs.Given.{if-ok}
use Rattle.mono_number.proofs.Heads.{group-moves}
use Rattle.mono_number.proofs.steps.put_group.Goals as goal

pub bind_heads-requires-clause-is_open : goal.bind_heads-requires-clause-is_open
bind_heads-requires-clause-is_open c = (c.in_ok-make.ensures (λ n. None)).open_

pub returns : goal.returns
returns c =
    if-ok _ _ c.enter.result
    (λ u h known. group-moves c.args.limit known (drop c.args.from c.args.words.now) c.count_heads-count.result c.args.walk.now c.make.new.walk c.bind_heads.new.walk c.enter.new.walk (c.in_ok-make.ensures known) c.in_ok-bind_heads.ensures (h known))
    c.enter.ensures
