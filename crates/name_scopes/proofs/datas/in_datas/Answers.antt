use Rattle.std.proofs.Common.{map, subst}
use Rattle.sml_tree.specs.Derived.{expand_con}
use Rattle.sml_tree.specs.Phrases.{con_bind}
use Rattle.sml_tree.specs.TreeOf.{con_bind_of}
use Rattle.core_rules.specs.Unbound.{all_in}
use Rattle.name_scopes.specs.Placed.{AnyAt}
use Rattle.name_scopes.proofs.Declaring.{in-datas}
use Rattle.name_scopes.proofs.FromEnd.{has-read}
use Rattle.name_scopes.proofs.datas.in_datas.Goals as goal

pub returns-then-in_cons : goal.returns-then-in_cons
returns-then-in_cons c u bs e n h =
    in-datas c.args.sought.now e bs c.args.datas.now c.index-datas-i.result (has-read c.args.datas.now c.loop-i.i c.index-datas-i.result c.loop-i-test.true c.index-datas-i.is)
    (subst (λ l. AnyAt c.args.sought.now (all_in e (map con_bind (map (expand_con bs) (map con_bind_of l))))) c.deref.ensures.value (c.if-in_cons.ensures u bs e n h))
