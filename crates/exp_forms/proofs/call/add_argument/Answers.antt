use Rattle.std.proofs.Common.{refl}
use Rattle.pat_elab.proofs.of_elab_steps.Growing.{grows_on, type_later}
use Rattle.exp_forms.proofs.Calling.{call_goes_on}
use Rattle.exp_forms.proofs.call.add_argument.Goals as goal

pub functions-requires-clause-from : goal.functions-requires-clause-from
functions-requires-clause-from c = type_later c.args.state.now c.fresh_type.new.state c.args.argument.ty c.in_ok-ty.ensures.grows c.requires.argument

pub unify-requires-clause-a : goal.unify-requires-clause-a
unify-requires-clause-a c =
    type_later c.args.state.now c.functions.new.state c.args.made.now.ty
    (grows_on c.args.state.now c.fresh_type.new.state c.functions.new.state c.in_ok-ty.ensures.grows c.in_ok-function.ensures.grows) c.requires.function

pub returns-clause-grows : goal.returns-clause-grows
returns-clause-grows c =
    grows_on c.args.state.now c.fresh_type.new.state c.write.new.state c.in_ok-ty.ensures.grows
    (grows_on c.fresh_type.new.state c.functions.new.state c.write.new.state c.in_ok-function.ensures.grows
    (grows_on c.functions.new.state c.unify.new.state c.write.new.state c.in_ok-unify.ensures.grows c.in_ok-written.ensures.grows))

pub returns-clause-is : goal.returns-clause-is
returns-clause-is c =
    type_later c.fresh_type.new.state c.write.new.state c.in_ok-ty.ty
    (grows_on c.fresh_type.new.state c.functions.new.state c.write.new.state c.in_ok-function.ensures.grows
    (grows_on c.functions.new.state c.unify.new.state c.write.new.state c.in_ok-unify.ensures.grows c.in_ok-written.ensures.grows)) c.in_ok-ty.ensures.is

pub returns-clause-added : goal.returns-clause-added
returns-clause-added c S M p f a called h k = call_goes_on S M c.args.state.now c.fresh_type.new.state c.functions.new.state c.unify.new.state c.write.new.state c.args.context.now p f a c.args.made.now _
    c.args.argument c.limit.result c.in_ok-ty.ty c.in_ok-function.function c.in_ok-written.written c.requires.context c.limit.ensures called h k c.in_ok-ty.ensures.grows c.in_ok-ty.ensures.is
    c.in_ok-ty.ensures.within c.in_ok-function.ensures.grows c.in_ok-function.ensures.has c.in_ok-unify.ensures.grows c.in_ok-unify.ensures.equal c.in_ok-written.ensures.grows
    c.in_ok-written.ensures.is refl c.in_ok-push.ensures.items refl
