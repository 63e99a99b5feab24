use Rattle.phrase_base.specs.Left.{left}
use Rattle.sml_phrases.proofs.VidForms.{long-short, long-qualified, long-none}
use Rattle.sml_phrases.proofs.vids.any_long.Goals as goal

pub returns-in-Some : goal.returns-in-Some
returns-in-Some c = rw c.new.ensures.items (long-short (left c.args.source.now c.args.tokens.now) c.in-Some.vid (left c.args.source.now c.in-Some.rest.now) c.in-Some.ensures)

pub returns-in-Some-2 : goal.returns-in-Some-2
returns-in-Some-2 c = long-qualified (left c.args.source.now c.args.tokens.now) _ _ c.in_default.ensures (rw c.in-Some-2.is at c.in_ok-long.ensures)

pub returns-in-None : goal.returns-in-None
returns-in-None c = long-none (left c.args.source.now c.args.tokens.now) c.in_default.ensures (rw c.in-None.is at c.in_ok-long.ensures)
