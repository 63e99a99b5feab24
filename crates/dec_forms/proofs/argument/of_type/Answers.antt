use Rattle.sml_tree.specs.TreeOf.{ty_of}
use Rattle.exp_forms.proofs.of_elab_context.Reading.{context_later}
use Rattle.dec_forms.proofs.Behind.{argument_written}
use Rattle.dec_forms.proofs.argument.of_type.Goals as goal

pub annotate-requires-clause-context : goal.annotate-requires-clause-context
annotate-requires-clause-context c = context_later c.args.state.now c.fresh_type.new.state c.args.context.now c.in_ok-number.ensures.grows c.requires

pub returns : goal.returns
returns c =
    argument_written c.args.state.now c.fresh_type.new.state c.annotate.new.state c.write.new.state c.args.context.now (ty_of c.args.ty.now) c.limit.result c.in_ok-number.number
    c.in_ok-written.written c.requires c.limit.ensures c.in_ok-number.ensures.grows c.in_ok-number.ensures.next c.in_ok-number.ensures.is c.in_ok-number.ensures.within
    c.in_ok-annotate.ensures c.in_ok-written.ensures.grows c.in_ok-written.ensures.next c.in_ok-written.ensures.is
