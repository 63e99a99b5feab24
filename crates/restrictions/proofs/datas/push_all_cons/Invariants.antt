use Rattle.std.proofs.Common.{◌≡◌, ◌++◌, drop, map}
use Rattle.std.specs.Prelude.{flat_map}
use Rattle.restrictions.specs.Keys.{con_key}
use Rattle.restrictions.proofs.datas.push_all_cons.Given as goal

abbrev pub invariant-loop-i : goal.invariant-loop-i
invariant-loop-i l =
    l.keys.items ++ flat_map (λ d. map con_key d.cons.items) (drop l.i l.datas) ≡ l.fn.keys.items ++ flat_map (λ d. map con_key d.cons.items) l.datas
