use Rattle.std.proofs.Common.{List, sym, ap, ◌∙◌}
use Rattle.closure_convert.specs.Capture.{Entry, entry_of, pieces_in}
use Rattle.capture_table.proofs.Placing.{entry-some, entry-none}
use Rattle.capture_table.proofs.table.Captures.pieces.Goals as goal

pub returns-in-Some : goal.returns-in-Some
returns-in-Some c =
    c.pieces_at.ensures
    ∙ ap pieces_in (entry-some c.self.inside.found c.self.inside.places.entries c.self.invariant c.args.function c.in-Some.place.now (sym c.in-Some.ensures.value))
    ∙ ap (λ (s : List Entry). pieces_in (entry_of c.args.function s)) c.self.view_is

pub returns-in-None : goal.returns-in-None
returns-in-None c =
    sym (ap (λ (s : List Entry). pieces_in (entry_of c.args.function s)) (sym c.self.view_is)
    ∙ ap pieces_in (entry-none c.self.inside.found c.self.inside.places.entries c.self.invariant c.args.function (sym c.in-None.ensures.value)))
