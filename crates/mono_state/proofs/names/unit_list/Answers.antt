use Rattle.std.proofs.Common.{refl, ◌∙◌}
use Rattle.std.proofs.lemmas.Result.{IfOk-weaker}
use Rattle.mono_state.specs.Seen.{held_of}
use Rattle.mono_state.proofs.Growing.{with-types}
use Rattle.mono_state.proofs.Going.{goes-on}
use Rattle.mono_state.proofs.Naming.{list-at}
use Rattle.mono_state.proofs.Listing.{list-goes, list-held, same-types}
use Rattle.mono_state.proofs.names.unit_list.Goals as goal

pub returns-clause-goes : goal.returns-clause-goes
returns-clause-goes c =
    let old = c.args.copier.now in
    let mid = record old { closed = c.units_of.new.closed } in
    IfOk-weaker c.number.result _ _
    (λ k h. λ sources. list-goes sources old mid (record mid { lists = c.number.new.self }) c.in_ok-types.types.items k
    (goes-on sources old mid c.requires (with-types (held_of old) c.units_of.new.closed c.in_ok-types.ensures.earlier_stay) refl refl refl refl c.requires.few) h refl refl refl refl refl refl refl)
    c.number.ensures.ok

pub returns-clause-held : goal.returns-clause-held
returns-clause-held c =
    let mid = record c.args.copier.now { closed = c.units_of.new.closed } in
    IfOk-weaker c.number.result _ _ (λ k h. list-held (held_of (record mid { lists = c.number.new.self })) c.in_ok-types.types.items k h.held c.in_ok-types.ensures.below) c.number.ensures.ok

pub returns-clause-is : goal.returns-clause-is
returns-clause-is c =
    IfOk-weaker c.number.result _ _
    (λ k h. λ H l. list-at k c.in_ok-types.types.items l h.held
    ∙ same-types c.units_of.new.closed H.types c.in_ok-types.types.items l.longer.types c.in_ok-types.ensures.below ∙ c.in_ok-types.ensures.is)
    c.number.ensures.ok
