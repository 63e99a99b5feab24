use Rattle.std.proofs.Common.{◌≡◌, ◌∷◌, ◌++◌, length, drop}
use Rattle.emit_constants.proofs.constants.put_bytes.Given as goal

abbrev pub invariant-loop-byte : goal.invariant-loop-byte
invariant-loop-byte l = l.words.items ++ drop l.byte-index l.text ≡ l.fn.words.items ++ length l.text ∷ l.text
