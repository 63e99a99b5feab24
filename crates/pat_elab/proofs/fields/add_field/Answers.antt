use Rattle.pat_elab.proofs.FieldsDo.{added_are}
use Rattle.pat_elab.proofs.fields.add_field.Goals as goal

pub returns : goal.returns
returns c S M before mid after fs a h k =
    added_are S M c.args.state.now c.write.new.state c.args.context.now c.args.label.now a fs before mid after c.args.fields.now _ c.args.one c.in_ok-ty.ty h k
    c.in_ok-ty.ensures.grows c.in_ok-ty.ensures.next c.in_ok-ty.ensures.is c.in_ok-push.ensures.items c.in_ok-push-2.ensures.items
