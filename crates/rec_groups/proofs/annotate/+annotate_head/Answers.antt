use Rattle.std.proofs.Common.{refl, sym, ap, ◌∙◌, arith}
use Rattle.sml_tree.specs.TreeOf.{pat_of}
use Rattle.elab_steps.proofs.Changing.{if-ok}
use Rattle.elab_steps.proofs.Growing.{type_later}
use Rattle.elab_context.proofs.Reading.{context_later}
use Rattle.dec_forms.proofs.of_pat_elab.Sizes.{named-size}
use Rattle.dec_forms.proofs.of_pat_elab.Sources.{source-As, source-BuiltCon, source-BuiltIn, source-Chain, source-Con, source-Constant, source-List, source-Record, source-Tuple, source-Typed, source-Vid, source-Wild}
use Rattle.rec_groups.proofs.Annotating.{as_annotated, at_source, chain_annotated, list_annotated, other_annotated, typed_annotated, vid_annotated, wild_annotated}
use Rattle.rec_groups.proofs.annotate.+annotate_head.Goals as goal

pub annotate-requires-clause-context : goal.annotate-requires-clause-context
annotate-requires-clause-context t c =
    context_later c.args.state.now c.annotate_head.new.state c.args.context.now c.in_ok-annotate_head-in-Typed.ensures.grows c.requires.context

pub annotate-requires-clause-number : goal.annotate-requires-clause-number
annotate-requires-clause-number t c = type_later c.args.state.now c.annotate_head.new.state c.args.ty c.in_ok-annotate_head-in-Typed.ensures.grows c.requires.ty

pub annotate_head-requires-in-As : goal.annotate_head-requires-in-As
annotate_head-requires-in-As t c = (
  omega (arith, c.decreases, named-size c.args.pat.now c.in-As.place c.in-As.field-1 c.in-As.written c.in-As.inner c.deref-in-As.result.now c.in-As.is c.deref-in-As.ensures),
  (
    context_later c.args.state.now c.annotate_if.new.state c.args.context.now c.in_ok-annotate_if-in-As.ensures.grows c.requires.context,
    type_later c.args.state.now c.annotate_if.new.state c.args.ty c.in_ok-annotate_if-in-As.ensures.grows c.requires.ty,
  ),
)

pub returns-in_ok-annotate_head-in-Typed : goal.returns-in_ok-annotate_head-in-Typed
returns-in_ok-annotate_head-in-Typed t c =
    if-ok c.annotate.result
    (λ u k.
    at_source c.args.state.now c.annotate.new.state c.args.context.now _ _ c.args.ty (ap pat_of c.in-Typed.is ∙ source-Typed c.in-Typed.place c.in-Typed.inner c.in-Typed.written)
    (typed_annotated c.args.state.now c.annotate_head.new.state c.annotate.new.state c.args.context.now c.in-Typed.place (pat_of c.in-Typed.inner.value) _ c.args.ty
    (at_source c.args.state.now c.annotate_head.new.state c.args.context.now _ _ c.args.ty (ap pat_of (sym c.deref.ensures)) c.in_ok-annotate_head-in-Typed.ensures) k)) c.annotate.ensures

pub returns-in_ok-annotate_if-in-As : goal.returns-in_ok-annotate_if-in-As
returns-in_ok-annotate_if-in-As t c =
    if-ok c.annotate_head-in-As.result
    (λ u k.
    at_source c.args.state.now c.annotate_head-in-As.new.state c.args.context.now _ _ c.args.ty (ap pat_of c.in-As.is ∙ source-As c.in-As.place c.in-As.field-1 c.in-As.written c.in-As.inner)
    (as_annotated c.args.state.now c.annotate_if.new.state c.annotate_head-in-As.new.state c.args.context.now c.in-As.place c.in-As.field-1 _ (pat_of c.in-As.inner.value) c.args.ty
    c.in_ok-annotate_if-in-As.ensures
    (at_source c.annotate_if.new.state c.annotate_head-in-As.new.state c.args.context.now _ _ c.args.ty (ap pat_of (sym c.deref-in-As.ensures)) k))) c.annotate_head-in-As.ensures

pub returns-in-Wild : goal.returns-in-Wild
returns-in-Wild t c =
    at_source c.args.state.now c.args.state.now c.args.context.now _ _ c.args.ty (ap pat_of c.in-Wild.is ∙ source-Wild c.in-Wild.field-0)
    (wild_annotated c.args.state.now c.args.context.now c.in-Wild.field-0 c.args.ty)

pub returns-in-Vid : goal.returns-in-Vid
returns-in-Vid t c =
    at_source c.args.state.now c.args.state.now c.args.context.now _ _ c.args.ty (ap pat_of c.in-Vid.is ∙ source-Vid c.in-Vid.field-0 c.in-Vid.field-1)
    (vid_annotated c.args.state.now c.args.context.now c.in-Vid.field-0 _ c.args.ty)

pub returns-in-Constant : goal.returns-in-Constant
returns-in-Constant t c =
    at_source c.args.state.now c.args.state.now c.args.context.now _ _ c.args.ty (ap pat_of c.in-Constant.is ∙ source-Constant c.in-Constant.field-0 c.in-Constant.field-1)
    (other_annotated c.args.state.now c.args.context.now _ c.args.ty refl)

pub returns-in-BuiltIn : goal.returns-in-BuiltIn
returns-in-BuiltIn t c =
    at_source c.args.state.now c.args.state.now c.args.context.now _ _ c.args.ty (ap pat_of c.in-BuiltIn.is ∙ source-BuiltIn c.in-BuiltIn.field-0 c.in-BuiltIn.field-1)
    (other_annotated c.args.state.now c.args.context.now _ c.args.ty refl)

pub returns-in-Record : goal.returns-in-Record
returns-in-Record t c =
    at_source c.args.state.now c.args.state.now c.args.context.now _ _ c.args.ty (ap pat_of c.in-Record.is ∙ source-Record c.in-Record.field-0 c.in-Record.field-1 c.in-Record.field-2)
    (other_annotated c.args.state.now c.args.context.now _ c.args.ty refl)

pub returns-in-Tuple : goal.returns-in-Tuple
returns-in-Tuple t c =
    at_source c.args.state.now c.args.state.now c.args.context.now _ _ c.args.ty (ap pat_of c.in-Tuple.is ∙ source-Tuple c.in-Tuple.field-0 c.in-Tuple.field-1)
    (other_annotated c.args.state.now c.args.context.now _ c.args.ty refl)

pub returns-in-List : goal.returns-in-List
returns-in-List t c =
    at_source c.args.state.now c.args.state.now c.args.context.now _ _ c.args.ty (ap pat_of c.in-List.is ∙ source-List c.in-List.field-0 c.in-List.field-1)
    (list_annotated c.args.state.now c.args.context.now c.in-List.field-0 _ c.args.ty)

pub returns-in-Con : goal.returns-in-Con
returns-in-Con t c =
    at_source c.args.state.now c.args.state.now c.args.context.now _ _ c.args.ty (ap pat_of c.in-Con.is ∙ source-Con c.in-Con.field-0 c.in-Con.field-1 c.in-Con.field-2 c.in-Con.field-3)
    (other_annotated c.args.state.now c.args.context.now _ c.args.ty refl)

pub returns-in-BuiltCon : goal.returns-in-BuiltCon
returns-in-BuiltCon t c =
    at_source c.args.state.now c.args.state.now c.args.context.now _ _ c.args.ty (ap pat_of c.in-BuiltCon.is ∙ source-BuiltCon c.in-BuiltCon.field-0 c.in-BuiltCon.field-1 c.in-BuiltCon.field-2)
    (other_annotated c.args.state.now c.args.context.now _ c.args.ty refl)

pub returns-in-Chain : goal.returns-in-Chain
returns-in-Chain t c =
    if-ok c.annotate_head-in-Chain.result
    (λ u k.
    at_source c.args.state.now c.annotate_head-in-Chain.new.state c.args.context.now _ _ c.args.ty (ap pat_of c.in-Chain.is ∙ source-Chain c.in-Chain.field-0 c.in-Chain.field-1 c.in-Chain.first c.in-Chain.field-3)
    (chain_annotated c.args.state.now c.annotate_head-in-Chain.new.state c.args.context.now c.in-Chain.field-1 c.in-Chain.field-0 (pat_of c.in-Chain.first.value) _ c.args.ty
    (at_source c.args.state.now c.annotate_head-in-Chain.new.state c.args.context.now _ _ c.args.ty (ap pat_of (sym c.deref-in-Chain.ensures)) k)))
    c.annotate_head-in-Chain.ensures
