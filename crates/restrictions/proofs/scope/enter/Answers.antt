use Rattle.std.proofs.Common.{ap, ◌∙◌}
use Rattle.restrictions.specs.Found.{noted_onto}
use Rattle.restrictions.proofs.Standing.{if-ok}
use Rattle.restrictions.proofs.scope.enter.Goals as goal

pub returns : goal.returns
returns c = if-ok c.note_all.result (λ u k. k ∙ ap (λ l. noted_onto l c.args.around.now) (c.deref.ensures.value ∙ c.in_ok-keys.ensures)) c.note_all.ensures
