use Rattle.std.proofs.Common.{List, length, slice_get, slice_range, sym, ap, subst, ◌∙◌, ◌≤◌, ◌<◌, arith}
use Rattle.closure_convert.specs.Capture.{Entry, pieces_in}
use Rattle.capture_scope.specs.Found.{pieces_of}
use Rattle.capture_table.proofs.Parts.{entry-at, entry-past, within-at}
use Rattle.capture_table.proofs.found.Found.pieces_at.Goals as goal

pub part_of-requires-clause-rises : goal.part_of-requires-clause-rises
part_of-requires-clause-rises c =
    let lt : c.args.place < length c.self.inside.entries.items = let h = c.if-place-len.true in let e = c.len.ensures in omega (arith, h, e) in
    (within-at _ _ c.self.inside.entries.items c.args.place c.index.result.now c.index.result.now lt c.index.ensures c.self.invariant).1.0

pub part_of-requires-clause-within : goal.part_of-requires-clause-within
part_of-requires-clause-within c =
    let lt : c.args.place < length c.self.inside.entries.items = let h = c.if-place-len.true in let e = c.len.ensures in omega (arith, h, e) in
    subst (λ l. c.index.result.now.pieces.to ≤ length l) (sym c.deref.ensures.value) (within-at _ _ c.self.inside.entries.items c.args.place c.index.result.now c.index.result.now lt c.index.ensures c.self.invariant).1.1

pub returns-then-place-len : goal.returns-then-place-len
returns-then-place-len c =
    let lt : c.args.place < length c.self.inside.entries.items = let h = c.if-place-len.true in let e = c.len.ensures in omega (arith, h, e) in
    ap pieces_of (c.part_of.ensures ∙ ap (λ l. slice_range l c.index.result.now.pieces.from c.index.result.now.pieces.to) c.deref.ensures.value)
    ∙ sym (ap pieces_in (entry-at c.self.inside.variables.items c.self.inside.pieces.items c.self.inside.entries.items c.args.place c.index.result.now c.index.result.now lt c.index.ensures))
    ∙ ap (λ (s : List Entry). pieces_in (slice_get s c.args.place)) c.self.view_is

pub returns-else-place-len : goal.returns-else-place-len
returns-else-place-len c =
    let le : length c.self.inside.entries.items ≤ c.args.place = let h = c.if-place-len.false in let e = c.len.ensures in omega (arith, h, e) in
    sym (ap pieces_in (entry-past c.self.inside.variables.items c.self.inside.pieces.items c.self.inside.entries.items c.args.place le)) ∙ ap (λ (s : List Entry). pieces_in (slice_get s c.args.place)) c.self.view_is
