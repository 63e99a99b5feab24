use Rattle.std.proofs.Common.{sym, ap, ◌∙◌}
use Rattle.std.proofs.lemmas.Result.{IfOk-weaker}
use Rattle.mono_state.specs.of_mono_words.Seen.{with_needs}
use Rattle.mono_state.specs.Seen.{seen}
use Rattle.mono_parts.specs.Operations.{if_needs}
use Rattle.mono_parts.proofs.operations.atom_if.Goals as goal

pub returns-in-Some-clause-noted : goal.returns-in-Some-clause-noted
returns-in-Some-clause-noted c =
    IfOk-weaker c.atom.result _ _ (λ k h. λ ss H l. h ss H l ∙ ap (λ o. with_needs (if_needs o) (seen ss H c.args.copier.now)) (sym c.in-Some.is)) c.atom.ensures.noted
