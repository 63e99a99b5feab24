use Rattle.std.proofs.Common.{refl, ap, ◌∙◌, map}
use Rattle.std.proofs.lemmas.Result.{IfOk-weaker}
use Rattle.needed_scopes.specs.Scopes.{noted_at}
use Rattle.needed_scopes.specs.Reads.{scopes_of}
use Rattle.mono_scopes.specs.Scopes.{noted}
use Rattle.mono_state.specs.Seen.{types_in, scope_at}
use Rattle.mono_state.proofs.Going.{goes-scopes, scopes-seen, if-both}
use Rattle.mono_state.proofs.Noting.{noted-held, noted-same}
use Rattle.mono_state.proofs.names.note.Goals as goal

pub returns-clause-goes : goal.returns-clause-goes
returns-clause-goes c =
    let old = c.args.copier.now in
    if-both c.note.result
    (λ x k e. λ sources. goes-scopes sources old c.note.new.self (noted_at c.args.variable c.args.list (scopes_of old.scopes)) c.requires.is_open k e
    (noted-held c.args.variable c.args.list (scopes_of old.scopes) c.requires.held c.requires.is_open.within))
    c.note.ensures.kept c.note.ensures.noted

pub returns-clause-noted : goal.returns-clause-noted
returns-clause-noted c =
    let old = c.args.copier.now in
    IfOk-weaker c.note.result _ _
    (λ x e. λ ss H l. scopes-seen ss H old (record old { scopes = c.note.new.self }) (noted c.args.variable (types_in H c.args.list) (map (scope_at H) (scopes_of old.scopes))) refl refl refl
    (ap (map (scope_at H)) e ∙ noted-same c.args.variable c.args.list (scopes_of old.scopes) l c.requires.held c.requires.is_open.within))
    c.note.ensures.noted
