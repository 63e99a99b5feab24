use Rattle.std.proofs.Common.{◌++◌, sym, ap, ◌∙◌}
use Rattle.restrictions.specs.Written.{unless_mark}
use Rattle.restrictions.proofs.Abbreviated.{notes-are, notes-none}
use Rattle.restrictions.proofs.written.mark_unless.Goals as goal

pub returns-then-holds : goal.returns-then-holds
returns-then-holds c = notes-none c.args.marks.now.items _ (ap (λ b. unless_mark b c.args.place) c.if-holds.true)

pub returns : goal.returns
returns c = notes-are c.args.marks.now.items _ _ (c.in_ok-push.ensures.items ∙ ap (λ b. c.args.marks.now.items ++ unless_mark b c.args.place) (sym c.if-holds.false))
