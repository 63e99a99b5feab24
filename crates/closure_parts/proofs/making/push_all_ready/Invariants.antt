use Rattle.std.proofs.Common.{◌≡◌, drop}
use Rattle.ir_first.specs.Tree as out
use Rattle.capture_scope.specs.Found.{pieces_of}
use Rattle.closure_meaning.specs.Convert.{Numbering, ready}
use Rattle.closure_parts.specs.Puts.{before}
use Rattle.closure_parts.specs.Tagged.{HasTags}
use Rattle.closure_parts.proofs.making.push_all_ready.Given as goal

abbrev pub invariant-loop-i : goal.invariant-loop-i
invariant-loop-i l =
    (n : Numbering) → HasTags l.tags n → (e : out.Exp) → before l.steps.items (ready n l.scope (pieces_of (drop l.i l.pieces)) e) ≡ before l.fn.steps.items (ready n l.scope (pieces_of l.pieces) e)
