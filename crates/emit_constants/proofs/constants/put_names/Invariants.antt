use Rattle.std.proofs.Common.{◌≡◌, ◌++◌, map, drop, get_or}
use Rattle.emit_constants.proofs.constants.put_names.Given as goal

abbrev pub invariant-loop-name : goal.invariant-loop-name
invariant-loop-name l =
    l.words.items ++ map (λ n. get_or l.names n 0) (drop l.name-index l.exceptions) ≡ l.fn.words.items ++ map (λ n. get_or l.names n 0) l.exceptions
