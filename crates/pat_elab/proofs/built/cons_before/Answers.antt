use Rattle.std.proofs.Common.{ap, subst}
use Rattle.prog_tree.specs.declared.tree.Head.TheVariants as head
use Rattle.elab_context.proofs.Reading.{context_later}
use Rattle.elab_context.specs.of_elab_steps.Growing.{Always, IsWithin}
use Rattle.elab_context.proofs.of_elab_steps.Growing.{grows_on, type_later}
use Rattle.pat_elab.proofs.Listing.{cons_headed}
use Rattle.pat_elab.proofs.built.cons_before.Goals as goal

pub returns : goal.returns
returns c = record {
  is = λ p. cons_headed c.args.state.now c.fresh_type.new.state c.lists.new.state c.pairs.new.state c.unify.new.state c.write.new.state c.args.context.now p c.args.argument c.in_ok-element.element c.in_ok-pair.pair _
      c.requires.context c.in_ok-element.ensures.grows (subst (λ l. Always c.fresh_type.new.state (λ W. IsWithin W l c.in_ok-element.element)) c.limit.ensures c.in_ok-element.ensures.within) c.in_ok-element.ensures.next
      c.in_ok-ty.ensures.grows c.in_ok-ty.ensures.is c.in_ok-ty.ensures.has c.in_ok-ty.ensures.next
      c.in_ok-pair.ensures.grows c.in_ok-pair.ensures.has c.in_ok-pair.ensures.next
      c.in_ok-unify.ensures.grows c.in_ok-unify.ensures.equal c.in_ok-unify.ensures.next
      c.in_ok-written.ensures.grows c.in_ok-written.ensures.is c.in_ok-written.ensures.next (ap head.Constructor c.number_of.ensures);
}

pub pairs-requires-clause-left : goal.pairs-requires-clause-left
pairs-requires-clause-left c = type_later c.fresh_type.new.state c.lists.new.state c.in_ok-element.element c.in_ok-ty.ensures.grows c.in_ok-element.ensures.is

pub unify-requires-clause-a : goal.unify-requires-clause-a
unify-requires-clause-a c =
    type_later c.args.state.now c.pairs.new.state c.args.argument
    (grows_on c.args.state.now c.fresh_type.new.state c.pairs.new.state c.in_ok-element.ensures.grows (grows_on c.fresh_type.new.state c.lists.new.state c.pairs.new.state c.in_ok-ty.ensures.grows c.in_ok-pair.ensures.grows))
    c.requires.argument

pub write-requires-clause-held : goal.write-requires-clause-held
write-requires-clause-held c =
    (type_later c.args.state.now c.unify.new.state c.args.argument
    (grows_on c.args.state.now c.fresh_type.new.state c.unify.new.state c.in_ok-element.ensures.grows
    (grows_on c.fresh_type.new.state c.lists.new.state c.unify.new.state c.in_ok-ty.ensures.grows (grows_on c.lists.new.state c.pairs.new.state c.unify.new.state c.in_ok-pair.ensures.grows c.in_ok-unify.ensures.grows)))
    c.requires.argument).held

pub write-requires-clause-among : goal.write-requires-clause-among
write-requires-clause-among c =
    (context_later c.args.state.now c.unify.new.state c.args.context.now
    (grows_on c.args.state.now c.fresh_type.new.state c.unify.new.state c.in_ok-element.ensures.grows
    (grows_on c.fresh_type.new.state c.lists.new.state c.unify.new.state c.in_ok-ty.ensures.grows (grows_on c.lists.new.state c.pairs.new.state c.unify.new.state c.in_ok-pair.ensures.grows c.in_ok-unify.ensures.grows)))
    c.requires.context).naming
