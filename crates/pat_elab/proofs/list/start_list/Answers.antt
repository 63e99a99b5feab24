use Rattle.std.proofs.Common.{refl, subst}
use Rattle.elab_context.proofs.Reading.{context_later}
use Rattle.elab_context.specs.of_elab_steps.Growing.{Always, IsWithin}
use Rattle.elab_context.proofs.of_elab_steps.Growing.{grows_on, type_later}
use Rattle.pat_elab.proofs.ListsDo.{listed_is}
use Rattle.pat_elab.proofs.list.start_list.Goals as goal

pub pairs-requires-clause-left : goal.pairs-requires-clause-left
pairs-requires-clause-left c = type_later c.fresh_type.new.state c.lists.new.state c.in_ok-element.element c.in_ok-ty.ensures.grows c.in_ok-element.ensures.is

pub write-requires-clause-among : goal.write-requires-clause-among
write-requires-clause-among c =
    (context_later c.args.state.now c.pairs.new.state c.args.context.now
    (grows_on c.args.state.now c.fresh_type.new.state c.pairs.new.state c.in_ok-element.ensures.grows (grows_on c.fresh_type.new.state c.lists.new.state c.pairs.new.state c.in_ok-ty.ensures.grows c.in_ok-whole.ensures.grows))
    c.requires.context).naming

pub write-requires-2-clause-held : goal.write-requires-2-clause-held
write-requires-2-clause-held c =
    (type_later c.fresh_type.new.state c.write.new.state c.in_ok-element.element
    (grows_on c.fresh_type.new.state c.lists.new.state c.write.new.state c.in_ok-ty.ensures.grows (grows_on c.lists.new.state c.pairs.new.state c.write.new.state c.in_ok-whole.ensures.grows c.in_ok-whole-2.ensures.grows))
    c.in_ok-element.ensures.is).held

pub write-requires-2-clause-among : goal.write-requires-2-clause-among
write-requires-2-clause-among c =
    (context_later c.args.state.now c.write.new.state c.args.context.now
    (grows_on c.args.state.now c.fresh_type.new.state c.write.new.state c.in_ok-element.ensures.grows
    (grows_on c.fresh_type.new.state c.lists.new.state c.write.new.state c.in_ok-ty.ensures.grows (grows_on c.lists.new.state c.pairs.new.state c.write.new.state c.in_ok-whole.ensures.grows c.in_ok-whole-2.ensures.grows)))
    c.requires.context).naming

pub write-requires-3-clause-held : goal.write-requires-3-clause-held
write-requires-3-clause-held c =
    (type_later c.lists.new.state c.write-2.new.state c.in_ok-ty.ty
    (grows_on c.lists.new.state c.pairs.new.state c.write-2.new.state c.in_ok-whole.ensures.grows (grows_on c.pairs.new.state c.write.new.state c.write-2.new.state c.in_ok-whole-2.ensures.grows c.in_ok-left.ensures.grows))
    c.in_ok-ty.ensures.is).held

pub write-requires-3-clause-among : goal.write-requires-3-clause-among
write-requires-3-clause-among c =
    (context_later c.args.state.now c.write-2.new.state c.args.context.now
    (grows_on c.args.state.now c.fresh_type.new.state c.write-2.new.state c.in_ok-element.ensures.grows
    (grows_on c.fresh_type.new.state c.lists.new.state c.write-2.new.state c.in_ok-ty.ensures.grows
    (grows_on c.lists.new.state c.pairs.new.state c.write-2.new.state c.in_ok-whole.ensures.grows (grows_on c.pairs.new.state c.write.new.state c.write-2.new.state c.in_ok-whole-2.ensures.grows c.in_ok-left.ensures.grows))))
    c.requires.context).naming

pub returns : goal.returns
returns c =
    listed_is c.args.state.now c.fresh_type.new.state c.lists.new.state c.pairs.new.state c.write.new.state c.write-2.new.state c.write-3.new.state c.args.context.now c.in_ok-element.element c.in_ok-ty.ty c.in_ok-whole.whole
    c.in_ok-whole-2.whole c.in_ok-left.left c.in_ok-right.right _ c.requires.context c.in_ok-element.ensures.grows c.in_ok-element.ensures.is
    (subst (λ l. Always c.fresh_type.new.state (λ W. IsWithin W l c.in_ok-element.element)) c.limit.ensures c.in_ok-element.ensures.within) c.in_ok-element.ensures.next
    c.in_ok-ty.ensures.grows c.in_ok-ty.ensures.is c.in_ok-ty.ensures.has c.in_ok-ty.ensures.next c.in_ok-whole.ensures.grows c.in_ok-whole.ensures.has c.in_ok-whole.ensures.next
    c.in_ok-whole-2.ensures.grows c.in_ok-whole-2.ensures.is c.in_ok-whole-2.ensures.next c.in_ok-left.ensures.grows c.in_ok-left.ensures.is c.in_ok-left.ensures.next
    c.in_ok-right.ensures.grows c.in_ok-right.ensures.is c.in_ok-right.ensures.next refl refl refl refl
