use Rattle.std.proofs.Common.{false, drop, refl}
use Rattle.mono_enter.proofs.Walking.{gone-in-group}
use Rattle.mono_enter.proofs.steps.go_in_group.Goals as goal

pub returns : goal.returns
returns c =
    gone-in-group (drop c.args.from c.args.words.now) c.args.stand.now (record { lists = c.push.new.self; functions = c.push_heads.new.stand.functions; begun = false }) c.push_heads.new.stand c.in_ok-push_heads.ensures c.in_ok-push.ensures.items refl refl
