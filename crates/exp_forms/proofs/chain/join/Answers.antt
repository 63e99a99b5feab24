use Rattle.std.proofs.Common.{refl}
use Rattle.pat_elab.proofs.of_elab_context.Reading.{context_later}
use Rattle.pat_elab.proofs.of_elab_steps.Growing.{grows_on, type_later}
use Rattle.exp_forms.proofs.JoiningChains.{grows_3, grows_4, joined_is}
use Rattle.exp_forms.proofs.chain.join.Goals as goal

pub functions-requires-clause-from : goal.functions-requires-clause-from
functions-requires-clause-from c = type_later c.pairs.new.state c.fresh_type.new.state c.in_ok-pair.pair c.in_ok-ty.ensures.grows c.in_ok-pair.ensures.is

pub write-requires-clause-held : goal.write-requires-clause-held
write-requires-clause-held c = (type_later c.fresh_type.new.state c.functions.new.state c.in_ok-ty.ty c.in_ok-function.ensures.grows c.in_ok-ty.ensures.is).held

pub write-requires-clause-among : goal.write-requires-clause-among
write-requires-clause-among c =
    (context_later c.args.state.now c.functions.new.state c.args.context.now
    (grows_3 c.args.state.now c.pairs.new.state c.fresh_type.new.state c.functions.new.state c.in_ok-pair.ensures.grows c.in_ok-ty.ensures.grows c.in_ok-function.ensures.grows) c.requires.context).naming

pub write-requires-2-clause-held : goal.write-requires-2-clause-held
write-requires-2-clause-held c =
    (type_later c.pairs.new.state c.write.new.state c.in_ok-pair.pair
    (grows_3 c.pairs.new.state c.fresh_type.new.state c.functions.new.state c.write.new.state c.in_ok-ty.ensures.grows c.in_ok-function.ensures.grows c.in_ok-whole.ensures.grows)
    c.in_ok-pair.ensures.is).held

pub write-requires-2-clause-among : goal.write-requires-2-clause-among
write-requires-2-clause-among c =
    (context_later c.args.state.now c.write.new.state c.args.context.now
    (grows_4 c.args.state.now c.pairs.new.state c.fresh_type.new.state c.functions.new.state c.write.new.state c.in_ok-pair.ensures.grows c.in_ok-ty.ensures.grows
    c.in_ok-function.ensures.grows c.in_ok-whole.ensures.grows) c.requires.context).naming

pub operator_used-requires : goal.operator_used-requires
operator_used-requires c =
    context_later c.args.state.now c.write-2.new.state c.args.context.now
    (grows_on c.args.state.now c.write.new.state c.write-2.new.state
    (grows_4 c.args.state.now c.pairs.new.state c.fresh_type.new.state c.functions.new.state c.write.new.state c.in_ok-pair.ensures.grows c.in_ok-ty.ensures.grows
    c.in_ok-function.ensures.grows c.in_ok-whole.ensures.grows) c.in_ok-both.ensures.grows) c.requires.context

pub unify-requires-clause-a : goal.unify-requires-clause-a
unify-requires-clause-a c = c.in_ok-used.ensures.is

pub unify-requires-clause-b : goal.unify-requires-clause-b
unify-requires-clause-b c =
    type_later c.functions.new.state c.operator_used.new.state c.in_ok-function.function
    (grows_3 c.functions.new.state c.write.new.state c.write-2.new.state c.operator_used.new.state c.in_ok-whole.ensures.grows c.in_ok-both.ensures.grows c.in_ok-used.ensures.grows)
    c.in_ok-function.ensures.is

pub returns : goal.returns
returns c =
    joined_is c.args.state.now c.pairs.new.state c.fresh_type.new.state c.functions.new.state c.write.new.state c.write-2.new.state c.operator_used.new.state c.unify.new.state c.args.context.now
    c.args.place c.args.operator.place c.args.operator.vid c.args.left c.args.right c.in_ok-pair.pair c.in_ok-ty.ty c.in_ok-function.function c.in_ok-whole.whole c.in_ok-both.both c.limit.result
    c.in_ok-used.used _ c.requires.context c.limit.ensures c.requires.right c.in_ok-pair.ensures.grows c.in_ok-pair.ensures.has c.in_ok-ty.ensures.grows c.in_ok-ty.ensures.is
    c.in_ok-ty.ensures.within c.in_ok-function.ensures.grows c.in_ok-function.ensures.has c.in_ok-whole.ensures.grows c.in_ok-whole.ensures.is c.in_ok-both.ensures.grows c.in_ok-both.ensures.is
    c.in_ok-used.ensures c.in_ok-unify.ensures.grows c.in_ok-unify.ensures.equal refl refl refl
