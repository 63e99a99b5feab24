use Rattle.std.proofs.Common.{◌≡◌, ◌++◌, drop, map}
use Rattle.sml_tree.specs.TreeOf.{type_bind_of}
use Rattle.restrictions.specs.Written.{used_of}
use Rattle.restrictions.proofs.written.push_used.Given as goal

abbrev pub invariant-loop-i : goal.invariant-loop-i
invariant-loop-i l =
    map (λ u. u.items) l.used.items ++ map (λ b. used_of (type_bind_of b)) (drop l.i l.binds) ≡ map (λ u. u.items) l.fn.used.items ++ map (λ b. used_of (type_bind_of b)) l.binds
