use Rattle.std.proofs.Common.{refl}
use Rattle.pat_elab.proofs.of_elab_context.Reading.{context_later}
use Rattle.pat_elab.proofs.of_elab_steps.Growing.{grows_on, type_later}
use Rattle.exp_forms.proofs.JoiningChains.{grows_3, grows_4}
use Rattle.exp_forms.proofs.Listing.{listed_is}
use Rattle.exp_forms.proofs.list.start_list.Goals as goal

pub write-requires-clause-held : goal.write-requires-clause-held
write-requires-clause-held c = c.in_ok-types.ensures.element.held

pub write-requires-clause-among : goal.write-requires-clause-among
write-requires-clause-among c = (context_later c.args.state.now c.list_types.new.state c.args.context.now c.in_ok-types.ensures.grows c.requires).naming

pub write-requires-2-clause-held : goal.write-requires-2-clause-held
write-requires-2-clause-held c = (type_later c.list_types.new.state c.write.new.state c.in_ok-types.types.function c.in_ok-at.ensures.grows c.in_ok-types.ensures.function).held

pub write-requires-2-clause-among : goal.write-requires-2-clause-among
write-requires-2-clause-among c =
    (context_later c.args.state.now c.write.new.state c.args.context.now
    (grows_on c.args.state.now c.list_types.new.state c.write.new.state c.in_ok-types.ensures.grows c.in_ok-at.ensures.grows) c.requires).naming

pub write-requires-3-clause-held : goal.write-requires-3-clause-held
write-requires-3-clause-held c =
    (type_later c.list_types.new.state c.write-2.new.state c.in_ok-types.types.list
    (grows_on c.list_types.new.state c.write.new.state c.write-2.new.state c.in_ok-at.ensures.grows c.in_ok-operator.ensures.grows) c.in_ok-types.ensures.list).held

pub write-requires-3-clause-among : goal.write-requires-3-clause-among
write-requires-3-clause-among c =
    (context_later c.args.state.now c.write-2.new.state c.args.context.now
    (grows_3 c.args.state.now c.list_types.new.state c.write.new.state c.write-2.new.state c.in_ok-types.ensures.grows c.in_ok-at.ensures.grows c.in_ok-operator.ensures.grows) c.requires).naming

pub write-requires-4-clause-held : goal.write-requires-4-clause-held
write-requires-4-clause-held c =
    (type_later c.list_types.new.state c.write-3.new.state c.in_ok-types.types.pair
    (grows_3 c.list_types.new.state c.write.new.state c.write-2.new.state c.write-3.new.state c.in_ok-at.ensures.grows c.in_ok-operator.ensures.grows c.in_ok-ty.ensures.grows)
    c.in_ok-types.ensures.pair).held

pub write-requires-4-clause-among : goal.write-requires-4-clause-among
write-requires-4-clause-among c =
    (context_later c.args.state.now c.write-3.new.state c.args.context.now
    (grows_4 c.args.state.now c.list_types.new.state c.write.new.state c.write-2.new.state c.write-3.new.state c.in_ok-types.ensures.grows c.in_ok-at.ensures.grows
    c.in_ok-operator.ensures.grows c.in_ok-ty.ensures.grows) c.requires).naming

pub returns : goal.returns
returns c =
    listed_is c.args.state.now c.list_types.new.state c.write.new.state c.write-2.new.state c.write-3.new.state c.write-4.new.state c.args.context.now c.args.place c.in_ok-types.types _ c.requires
    c.in_ok-types.ensures c.in_ok-at.ensures.grows c.in_ok-at.ensures.is c.in_ok-operator.ensures.grows c.in_ok-operator.ensures.is c.in_ok-ty.ensures.grows c.in_ok-ty.ensures.is
    c.in_ok-pair.ensures.grows c.in_ok-pair.ensures.is refl refl refl
