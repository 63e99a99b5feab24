use Rattle.std.proofs.Common.{refl}
use Rattle.elab_context.proofs.Reading.{context_later}
use Rattle.elab_context.proofs.of_elab_steps.Growing.{grows_on, type_later}
use Rattle.pat_elab.proofs.Chains.{joined_is}
use Rattle.pat_elab.proofs.chain.join.Goals as goal

pub infix-requires-clause-context : goal.infix-requires-clause-context
infix-requires-clause-context c = context_later c.args.state.now c.pairs.new.state c.args.context.now c.in_ok-pair.ensures.grows c.requires.context

pub write-requires-clause-held : goal.write-requires-clause-held
write-requires-clause-held c =
    (type_later c.args.state.now c.infix.new.state c.args.left (grows_on c.args.state.now c.pairs.new.state c.infix.new.state c.in_ok-pair.ensures.grows (c.in_ok-headed.ensures c.args.place).grows) c.requires.left).held

pub write-requires-clause-among : goal.write-requires-clause-among
write-requires-clause-among c =
    (context_later c.args.state.now c.infix.new.state c.args.context.now (grows_on c.args.state.now c.pairs.new.state c.infix.new.state c.in_ok-pair.ensures.grows (c.in_ok-headed.ensures c.args.place).grows) c.requires.context).naming

pub write-requires-2-clause-held : goal.write-requires-2-clause-held
write-requires-2-clause-held c =
    (type_later c.args.state.now c.write.new.state c.args.right
    (grows_on c.args.state.now c.pairs.new.state c.write.new.state c.in_ok-pair.ensures.grows
    (grows_on c.pairs.new.state c.infix.new.state c.write.new.state (c.in_ok-headed.ensures c.args.place).grows c.in_ok-left.ensures.grows)) c.requires.right).held

pub write-requires-2-clause-among : goal.write-requires-2-clause-among
write-requires-2-clause-among c =
    (context_later c.args.state.now c.write.new.state c.args.context.now
    (grows_on c.args.state.now c.pairs.new.state c.write.new.state c.in_ok-pair.ensures.grows
    (grows_on c.pairs.new.state c.infix.new.state c.write.new.state (c.in_ok-headed.ensures c.args.place).grows c.in_ok-left.ensures.grows)) c.requires.context).naming

pub returns : goal.returns
returns c =
    joined_is c.args.state.now c.pairs.new.state c.infix.new.state c.write.new.state c.write-2.new.state c.args.context.now (record { place = c.args.place; vid = c.args.vid }) c.args.left c.args.right
    c.in_ok-pair.pair c.in_ok-left.left c.in_ok-right.right c.in_ok-headed.headed _ c.in_ok-pair.ensures.grows c.in_ok-pair.ensures.next c.in_ok-pair.ensures.has c.requires.right c.in_ok-headed.ensures
    c.in_ok-left.ensures.grows c.in_ok-left.ensures.is c.in_ok-left.ensures.next c.in_ok-right.ensures.grows c.in_ok-right.ensures.is c.in_ok-right.ensures.next refl refl refl
