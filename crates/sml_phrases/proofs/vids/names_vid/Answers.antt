use Rattle.phrase_base.specs.Left.{left}
use Rattle.sml_phrases.proofs.VidForms.{names-op, place-op}
use Rattle.sml_phrases.proofs.vids.names_vid.Goals as goal

pub returns-in-Some : goal.returns-in-Some
returns-in-Some c =
    let i = left c.args.source.now c.args.tokens.now in
    let m = left c.args.source.now c.in-Some.rest.now in
    rw (names-op c.args.fix.now i m c.in-Some.ensures, place-op i m c.in-Some.ensures) c.any_long.ensures
