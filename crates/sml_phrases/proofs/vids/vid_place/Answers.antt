use Rattle.std.proofs.Common.{sym, ap, ◌∙◌}
use Rattle.sml_tree.specs.Bare.{at}
use Rattle.phrase_base.specs.Left.{left}
use Rattle.sml_phrases.proofs.VidForms.{place-op, place-plain}
use Rattle.sml_phrases.proofs.vids.vid_place.Goals as goal

pub returns-in-Some : goal.returns-in-Some
returns-in-Some c = c.place_at.ensures ∙ ap (at c.args.source.now.file) (sym (place-op (left c.args.source.now c.args.tokens.now) (left c.args.source.now c.in-Some.rest.now) c.in-Some.ensures))

pub returns-in-None : goal.returns-in-None
returns-in-None c = c.place_at-in-None.ensures ∙ ap (at c.args.source.now.file) (sym (place-plain (left c.args.source.now c.args.tokens.now) c.in-None.ensures))
