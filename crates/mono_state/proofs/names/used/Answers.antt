use Rattle.std.proofs.Common.{ap₂, ◌∙◌, ◌∷◌, []}
use Rattle.std.proofs.lemmas.Result.{IfOk-weaker}
use Rattle.mono_words.specs.Seen.{with_needs}
use Rattle.mono_state.proofs.Growing.{sooner}
use Rattle.mono_state.proofs.Going.{goes-then, if-both}
use Rattle.mono_state.proofs.names.used.Goals as goal

pub note-requires-clause-is_open : goal.note-requires-clause-is_open
note-requires-clause-is_open c = c.in_ok-list.ensures.goes.open_

pub copy_at-requires : goal.copy_at-requires
copy_at-requires c = (c.in_ok-note.ensures.goes []).open_

pub returns-clause-goes : goal.returns-clause-goes
returns-clause-goes c =
    let t = c.args.tables.now.types in
    IfOk-weaker c.copy_at.result _ _
    (λ n h. goes-then t c.args.copier.now c.note.new.copier c.copy_at.new.copier (goes-then t c.args.copier.now c.list_at.new.copier c.note.new.copier c.in_ok-list.ensures.goes (c.in_ok-note.ensures.goes t)) (h t))
    c.copy_at.ensures.goes

pub returns-clause-noted : goal.returns-clause-noted
returns-clause-noted c =
    if-both c.copy_at.result
    (λ n a b. λ ss H l. a ss H ∙ c.in_ok-note.ensures.noted ss H (sooner (b []).longer l)
    ∙ ap₂ (λ k z. with_needs (k ∷ []) z) (c.in_ok-list.ensures.is H (sooner (c.in_ok-note.ensures.goes []).longer (sooner (b []).longer l))) (c.in_ok-list.ensures.stays ss H))
    c.copy_at.ensures.stays c.copy_at.ensures.goes

pub returns-clause-is : goal.returns-clause-is
returns-clause-is c =
    if-both c.copy_at.result
    (λ n a b. λ H l. a H l ∙ c.in_ok-list.ensures.is H (sooner (c.in_ok-note.ensures.goes []).longer (sooner (b []).longer l)))
    c.copy_at.ensures.is c.copy_at.ensures.goes
