use Rattle.elab_exps.proofs.Declaring.{opening_declared, replication_declared}
use Rattle.elab_exps.proofs.plain.plain_dec.Goals as goal

pub returns-in_ok-replicate-in-Replicate : goal.returns-in_ok-replicate-in-Replicate
returns-in_ok-replicate-in-Replicate c =
    replication_declared c.args.state.now c.args.context.now c.replicate.new.context c.args.dec.now c.in-Replicate.place c.in-Replicate.tycon c.in-Replicate.from
    c.args.made.now.items c.args.brought.now c.replicate.new.brought c.in-Replicate.is c.requires c.in_ok-replicate-in-Replicate.ensures.context
    c.in_ok-replicate-in-Replicate.ensures.schemes c.in_ok-replicate-in-Replicate.ensures.declared

pub returns-in_ok-open-in-Open : goal.returns-in_ok-open-in-Open
returns-in_ok-open-in-Open c =
    opening_declared c.args.state.now c.args.context.now c.open.new.context c.args.dec.now c.in-Open.place c.in-Open.structures c.deref-in-Open.result.now c.args.made.now.items
    c.args.brought.now c.open.new.brought c.in-Open.is c.deref-in-Open.ensures.value c.requires c.in_ok-open-in-Open.ensures.context c.in_ok-open-in-Open.ensures.schemes
    c.in_ok-open-in-Open.ensures.declared
