use Rattle.std.proofs.Common.{◌≡◌, List, length, sym, ap, ◌∙◌, arith}
use Rattle.closure_convert.specs.Scope.{index_of}
use Rattle.closure_convert.specs.Capture.{Entry}
use Rattle.capture_table.specs.Tables.{numbers_of}
use Rattle.capture_table.proofs.Placing.{place-some, place-none}
use Rattle.capture_table.proofs.table.Captures.place.Goals as goal

pub returns-in-Some : goal.returns-in-Some
returns-in-Some c =
    place-some c.self.inside.found c.self.inside.places.entries c.self.invariant c.args.function c.in-Some.place.now (sym c.in-Some.ensures.value)
    ∙ ap (λ (s : List Entry). index_of c.args.function (numbers_of s)) c.self.view_is

pub returns-in-None : goal.returns-in-None
returns-in-None c =
    let e = c.len.ensures in
    let r : index_of c.args.function (numbers_of c.args.self.now) ≡ length c.self.inside.found
    = ap (λ (s : List Entry). index_of c.args.function (numbers_of s)) (sym c.self.view_is)
    ∙ place-none c.self.inside.found c.self.inside.places.entries c.self.invariant c.args.function (sym c.in-None.ensures.value) in
    omega (arith, e, r)
