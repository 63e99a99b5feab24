use Rattle.std.proofs.Common.{sym, ap, ◌∙◌}
use Rattle.sml_tree.specs.TreeOf.{exp_of}
use Rattle.core_rules.specs.Typing.{is_conexp}
use Rattle.elab_typed.specs.Contexts.{generic}
use Rattle.rec_groups.proofs.of_exp_forms.Nodes.{source-Apply, source-Chain, source-Sequence, source-Typed, source-Vid}
use Rattle.general_decs.specs.Values.{is_nil}
use Rattle.general_decs.proofs.Valued.{applied-makes, chain-makes, sequence-makes, two}
use Rattle.general_decs.proofs.values.+constructs.Goals as goal

pub returns-in-Vid : goal.returns-in-Vid
returns-in-Vid t c W k A u =
    let E = (generic A).env in
    c.long_makes.ensures W k A u ∙ ap (is_conexp E) (sym (source-Vid c.in-Vid.field-0 c.in-Vid.long)) ∙ ap (λ e. is_conexp E (exp_of e)) (sym c.in-Vid.is)

pub returns-in-Sequence : goal.returns-in-Sequence
returns-in-Sequence t c W k A u =
    let E = (generic A).env in
    two c.both.ensures (c.is_nothing-in-Sequence.ensures ∙ ap is_nil c.deref-in-Sequence.ensures.value)
    (c.constructs.ensures W k A u ∙ ap (λ e. is_conexp E (exp_of e)) c.deref-in-Sequence-2.ensures)
    ∙ sequence-makes E c.in-Sequence.field-0 (exp_of c.in-Sequence.first.value) c.in-Sequence.rest.items
    ∙ ap (is_conexp E) (sym (source-Sequence c.in-Sequence.field-0 c.in-Sequence.first c.in-Sequence.rest)) ∙ ap (λ e. is_conexp E (exp_of e)) (sym c.in-Sequence.is)

pub returns-in-Apply : goal.returns-in-Apply
returns-in-Apply t c W k A u =
    let E = (generic A).env in
    two c.both-in-Apply.ensures (c.is_nothing-in-Apply.ensures ∙ ap is_nil c.deref-in-Apply.ensures.value)
    (c.constructs-in-Apply.ensures W k A u ∙ ap (λ e. is_conexp E (exp_of e)) c.deref-in-Apply-2.ensures)
    ∙ applied-makes E c.in-Apply.field-0 (exp_of c.in-Apply.function.value) c.in-Apply.arguments.items
    ∙ ap (is_conexp E) (sym (source-Apply c.in-Apply.field-0 c.in-Apply.function c.in-Apply.arguments)) ∙ ap (λ e. is_conexp E (exp_of e)) (sym c.in-Apply.is)

pub returns-in-Chain : goal.returns-in-Chain
returns-in-Chain t c W k A u =
    let E = (generic A).env in
    two c.both-in-Chain.ensures (c.is_nothing-in-Chain.ensures ∙ ap is_nil c.deref-in-Chain.ensures.value)
    (c.constructs-in-Chain.ensures W k A u ∙ ap (λ e. is_conexp E (exp_of e)) c.deref-in-Chain-2.ensures)
    ∙ chain-makes E c.in-Chain.field-1 c.in-Chain.field-0 (exp_of c.in-Chain.first.value) c.in-Chain.parts.items
    ∙ ap (is_conexp E) (sym (source-Chain c.in-Chain.field-0 c.in-Chain.field-1 c.in-Chain.first c.in-Chain.parts)) ∙ ap (λ e. is_conexp E (exp_of e)) (sym c.in-Chain.is)

pub returns-in-Typed : goal.returns-in-Typed
returns-in-Typed t c W k A u =
    let E = (generic A).env in
    c.constructs-in-Typed.ensures W k A u ∙ ap (λ e. is_conexp E (exp_of e)) c.deref-in-Typed.ensures
    ∙ ap (is_conexp E) (sym (source-Typed c.in-Typed.field-0 c.in-Typed.body c.in-Typed.field-2)) ∙ ap (λ e. is_conexp E (exp_of e)) (sym c.in-Typed.is)
