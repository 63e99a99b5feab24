use Rattle.std.proofs.Common.{ap, ◌∙◌, ◌∷◌, []}
use Rattle.std.proofs.lemmas.Result.{IfOk-weaker}
use Rattle.monomorphise.specs.Monomorphise.{copy_of}
use Rattle.mono_words.specs.Seen.{with_needs}
use Rattle.mono_state.specs.Seen.{seen}
use Rattle.mono_state.proofs.Growing.{sooner}
use Rattle.mono_state.proofs.Going.{goes-then, if-both}
use Rattle.mono_state.proofs.Naming.{nothing-at}
use Rattle.mono_state.proofs.names.atom.Goals as goal

pub alone-requires : goal.alone-requires
alone-requires c = (c.in_ok-note.ensures.goes []).open_

pub returns-clause-goes : goal.returns-clause-goes
returns-clause-goes c =
    IfOk-weaker c.alone.result _ _ (λ n h. λ sources. goes-then sources c.args.copier.now c.note.new.copier c.alone.new.copier (c.in_ok-note.ensures.goes sources) (h sources)) c.alone.ensures.goes

pub returns-clause-noted : goal.returns-clause-noted
returns-clause-noted c =
    if-both c.alone.result
    (λ n a b. λ ss H l. a ss H ∙ c.in_ok-note.ensures.noted ss H (sooner (b []).longer l)
    ∙ ap (λ k. with_needs (copy_of c.args.variable k ∷ []) (seen ss H c.args.copier.now)) (nothing-at l (b []).open_.nothing))
    c.alone.ensures.stays c.alone.ensures.goes
