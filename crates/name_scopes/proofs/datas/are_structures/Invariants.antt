use Rattle.std.proofs.Common.{◌≡◌, drop, map}
use Rattle.std.specs.Prelude.{is_some}
use Rattle.sml_tree.specs.TreeOf.{long_id_at_of}
use Rattle.core_rules.specs.Eval.{opened}
use Rattle.core_rules.specs.Values.{Env}
use Rattle.name_scopes.specs.Covering.{Covers}
use Rattle.name_scopes.proofs.datas.are_structures.Given as goal

abbrev pub invariant-loop-i : goal.invariant-loop-i
invariant-loop-i l = (e : Env) → Covers l.scope e → is_some (opened e (map long_id_at_of (drop l.i l.longs))) ≡ is_some (opened e (map long_id_at_of l.longs))
