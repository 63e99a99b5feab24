use Rattle.std.proofs.Common.{◌≡◌, ◌++◌, ◌∷◌, [], List, length, sym, ap, subst, ◌∙◌, arith}
use Rattle.closure_convert.specs.Capture.{Entry}
use Rattle.capture_scope.specs.Found.{pieces_of}
use Rattle.capture_table.specs.Told.{entry}
use Rattle.capture_table.specs.Parts.{AreWithin}
use Rattle.capture_table.proofs.Parts.{within-more, longer, pushed-within, pushed-is}
use Rattle.capture_table.proofs.found.Found.push.Goals as goal

pub invariant_of-self-in_err-extend_from_slice-2 : goal.invariant_of-self-in_err-extend_from_slice-2
invariant_of-self-in_err-extend_from_slice-2 c =
    within-more (length c.self.inside.variables.items) (length c.self.inside.pieces.items) _ _ c.self.inside.entries.items (longer c.self.inside.variables.items c.args.captured.now _ c.in_ok-extend_from_slice.ensures.items)
    (let e : length c.extend_from_slice-2.new.self.items ≡ length c.self.inside.pieces.items = ap length c.in_err-extend_from_slice-2.ensures.items in omega (arith, e)) c.self.invariant

pub invariant_of-self-in_err-push : goal.invariant_of-self-in_err-push
invariant_of-self-in_err-push c =
    subst (AreWithin (length c.extend_from_slice.new.self.items) (length c.extend_from_slice-2.new.self.items)) (sym c.in_err-push.ensures.items)
    (within-more (length c.self.inside.variables.items) (length c.self.inside.pieces.items) _ _ c.self.inside.entries.items (longer c.self.inside.variables.items c.args.captured.now _ c.in_ok-extend_from_slice.ensures.items)
    (longer c.self.inside.pieces.items c.args.pieces.now _ c.in_ok-extend_from_slice-2.ensures.items) c.self.invariant)

pub invariant_of-self-2 : goal.invariant_of-self-2
invariant_of-self-2 c =
    pushed-within c.self.inside.variables.items c.args.captured.now c.extend_from_slice.new.self.items c.self.inside.pieces.items c.args.pieces.now c.extend_from_slice-2.new.self.items c.self.inside.entries.items c.push.new.self.items
    c.args.number c.len-from.result c.len.result c.len-first.result c.len-2.result (let e = c.len-from.ensures in omega (arith, e)) c.in_ok-extend_from_slice.ensures.items (let e = c.len.ensures in omega (arith, e))
    (let e = c.len-first.ensures in omega (arith, e)) c.in_ok-extend_from_slice-2.ensures.items (let e = c.len-2.ensures in omega (arith, e)) c.in_ok-push.ensures.items c.self.invariant

pub returns : goal.returns
returns c =
    pushed-is c.self.inside.variables.items c.args.captured.now c.extend_from_slice.new.self.items c.self.inside.pieces.items c.args.pieces.now c.extend_from_slice-2.new.self.items c.self.inside.entries.items c.push.new.self.items
    c.args.number c.len-from.result c.len.result c.len-first.result c.len-2.result (let e = c.len-from.ensures in omega (arith, e)) c.in_ok-extend_from_slice.ensures.items (let e = c.len.ensures in omega (arith, e))
    (let e = c.len-first.ensures in omega (arith, e)) c.in_ok-extend_from_slice-2.ensures.items (let e = c.len-2.ensures in omega (arith, e)) c.in_ok-push.ensures.items c.self.invariant
    ∙ ap (λ (s : List Entry). s ++ entry c.args.number (pieces_of c.args.pieces.now) c.args.captured.now ∷ []) c.self.view_is
