use Rattle.std.proofs.Common.{List, length, get_or, ap, ◌∙◌, ◌<◌, arith}
use Rattle.closure_convert.specs.Capture.{Entry}
use Rattle.capture_table.specs.Tables.{numbers_of}
use Rattle.capture_table.proofs.Parts.{number-at}
use Rattle.capture_table.proofs.found.Found.number_at.Goals as goal

pub returns-then-place-len : goal.returns-then-place-len
returns-then-place-len c =
    let lt : c.args.place < length c.self.inside.entries.items = let h = c.if-place-len.true in let e = c.len.ensures in omega (arith, h, e) in
    number-at c.self.inside.variables.items c.self.inside.pieces.items c.self.inside.entries.items c.args.place c.index.result.now c.index.result.now lt c.index.ensures
    ∙ ap (λ (s : List Entry). get_or (numbers_of s) c.args.place 0) c.self.view_is
