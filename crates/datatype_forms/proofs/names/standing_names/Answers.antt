use Rattle.std.proofs.Common.{[], map, sym, subst, take}
use Rattle.sml_tree.specs.TreeOf.{data_bind_of}
use Rattle.datatype_forms.specs.Arguments.{AreStanding}
use Rattle.datatype_forms.proofs.Best.{standing_next}
use Rattle.datatype_forms.proofs.Collecting.{taken_next}
use Rattle.datatype_forms.proofs.names.standing_names.Goals as goal

pub loop-i-init : goal.loop-i-init
loop-i-init c = subst (λ ns. AreStanding ns []) (sym c.new-names.ensures.items) tt

pub loop-i-preserved : goal.loop-i-preserved
loop-i-preserved c =
    standing_next c.loop-i.names.items c.push.new.self.items (map data_bind_of (take c.loop-i.i c.args.binds.now)) _ _ (data_bind_of c.index-binds-i.result) c.loop-i.invariant c.in_ok-arity.ensures
    (taken_next data_bind_of c.args.binds.now c.loop-i.i c.index-binds-i.result c.loop-i-test.true c.index-binds-i.is) c.in_ok-push.ensures.items
