use Rattle.scope_decs.proofs.Opening.{no-members}
use Rattle.scope_decs.proofs.members.add_members.Goals as goal

pub returns-in-None : goal.returns-in-None
returns-in-None c =
    let h = c.in-None.ensures.lookup in no-members c.args.context.now c.args.structure c.deref.result.now c.args.values.now.items c.deref.ensures.value h.3
