use Rattle.sml_tree.specs.TreeOf.{some_ty_of}
use Rattle.dec_forms.proofs.Adding.{new_added}
use Rattle.dec_forms.proofs.exns.add_new.Goals as goal

pub returns : goal.returns
returns c S bs h =
    new_added S c.args.state.now c.argument_of.new.state c.next_variable.new.state c.args.context.now bs c.args.place c.args.vid c.in_ok-name.name c.in_ok-number.number
    (some_ty_of c.args.ty.now) c.in_ok-argument.argument c.args.made.now _ h c.in_ok-name.ensures.is c.in_ok-argument.ensures c.in_ok-number.ensures.grows c.in_ok-number.ensures.is
    c.in_ok-number.ensures.next c.in_ok-push.ensures.items c.in_ok-push-2.ensures.items
