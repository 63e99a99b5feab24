use Rattle.pat_elab.proofs.FieldsDo.{none_are}
use Rattle.pat_elab.proofs.fields.no_fields.Goals as goal

pub returns : goal.returns
returns c bs = none_are c.args.state.now c.args.context.now bs _ c.new.ensures.items c.new-2.ensures.items
