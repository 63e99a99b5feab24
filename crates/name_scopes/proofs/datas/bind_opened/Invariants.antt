use Rattle.std.proofs.Common.{map, take}
use Rattle.sml_tree.specs.TreeOf.{long_id_at_of}
use Rattle.name_scopes.specs.Placed.{Brought}
use Rattle.name_scopes.proofs.Opening.{each_opened}
use Rattle.name_scopes.proofs.datas.bind_opened.Given as goal

abbrev pub invariant-loop-i : goal.invariant-loop-i
invariant-loop-i l = Brought l.fn.scope l.scope (λ e. each_opened e (map long_id_at_of (take l.i l.longs)))
