use Rattle.std.proofs.Common.{map, take, subst}
use Rattle.sml_tree.specs.TreeOf.{ex_bind_of}
use Rattle.exp_forms.proofs.of_elab_context.Reading.{context_later}
use Rattle.dec_forms.specs.Exceptions.{AreExns}
use Rattle.dec_forms.proofs.Adding.{binds-next, no_exns}
use Rattle.dec_forms.proofs.exns.all_exns.Goals as goal

pub loop-i-init : goal.loop-i-init
loop-i-init c = no_exns c.args.state.now c.args.context.now _ c.new.ensures.items c.new-2.ensures.items

pub add_exn-requires : goal.add_exn-requires
add_exn-requires c = context_later c.args.state.now c.loop-i.state c.args.context.now c.loop-i.invariant.grows c.requires

pub loop-i-preserved : goal.loop-i-preserved
loop-i-preserved c =
    subst (λ bs. AreExns c.args.state.now c.args.context.now bs c.add_exn.new.state c.add_exn.new.made)
    (binds-next c.args.binds.now c.loop-i.i c.index-binds-i.result c.loop-i-test.true c.index-binds-i.is)
    (c.in_ok-add_exn.ensures c.args.state.now (map ex_bind_of (take c.loop-i.i c.args.binds.now)) c.loop-i.invariant)
