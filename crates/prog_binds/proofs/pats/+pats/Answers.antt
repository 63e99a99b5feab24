use Rattle.std.proofs.Common.{◌∷◌, sym, ap, ◌∙◌, subst}
use Rattle.ty_table.specs.TypeAt.{type_at}
use Rattle.prog_known.specs.Lists.{run}
use Rattle.prog_known.specs.Onto.{Onto, known_by}
use Rattle.prog_known.proofs.ListLemmas.{drop-next-is}
use Rattle.prog_known.proofs.OntoLemmas.{as-onto, then-onto, run-starts, run-more, run-ends}
use Rattle.prog_binds.specs.Chains.{first_type, pat_step, field_step, part_step}
use Rattle.prog_binds.proofs.Onward.{chain-onto, record-onto, head-onto, variable-onto, as-is-onto}
use Rattle.prog_binds.proofs.pats.+pats.Goals as goal

pub bind_fields-loop-i-init : goal.bind_fields-loop-i-init
bind_fields-loop-i-init t c = run-starts c.args.tables.now (field_step c.args.tables.now c.args.manner) c.args.fields.now c.args.variables.now

pub bind_parts-loop-i-init : goal.bind_parts-loop-i-init
bind_parts-loop-i-init t c = run-starts c.args.tables.now (part_step c.args.tables.now c.args.manner c.args.side) c.args.parts.now c.args.variables.now

pub bind_fields-loop-i-preserved : goal.bind_fields-loop-i-preserved
bind_fields-loop-i-preserved t c = run-more c.args.tables.now (field_step c.args.tables.now c.args.manner) c.args.fields.now c.args.variables.now c.loop-i.variables c.bind_pat.new.variables c.loop-i.i _
    (drop-next-is c.args.fields.now c.loop-i.i c.index-fields-i.result c.loop-i-test.true c.index-fields-i.is) c.loop-i.invariant c.in_ok-bind_pat.ensures

pub bind_parts-loop-i-preserved : goal.bind_parts-loop-i-preserved
bind_parts-loop-i-preserved t c = run-more c.args.tables.now (part_step c.args.tables.now c.args.manner c.args.side) c.args.parts.now c.args.variables.now c.loop-i.variables c.bind_pat.new.variables c.loop-i.i _
    (drop-next-is c.args.parts.now c.loop-i.i c.index-parts-i.result c.loop-i-test.true c.index-parts-i.is) c.loop-i.invariant
    (subst (λ n. Onto c.args.tables.now c.loop-i.variables c.bind_pat.new.variables (pat_step c.args.tables.now c.args.manner c.index-parts-i.result.pat n)) c.type_of_part-ty.ensures c.in_ok-bind_pat.ensures)

pub bind_fields-returns : goal.bind_fields-returns
bind_fields-returns t c = run-ends c.args.tables.now (field_step c.args.tables.now c.args.manner) c.args.fields.now c.args.variables.now c.loop-i.variables c.loop-i.i c.loop-i-test.false c.loop-i.invariant

pub bind_parts-returns : goal.bind_parts-returns
bind_parts-returns t c = run-ends c.args.tables.now (part_step c.args.tables.now c.args.manner c.args.side) c.args.parts.now c.args.variables.now c.loop-i.variables c.loop-i.i c.loop-i-test.false c.loop-i.invariant

pub bind_pat-returns-in_ok-bind_one-in-Variable : goal.bind_pat-returns-in_ok-bind_one-in-Variable
bind_pat-returns-in_ok-bind_one-in-Variable t c = as-onto c.args.tables.now _ _ _ _
    (λ G. variable-onto c.args.tables.now c.args.manner c.in-Variable.variable c.args.ty G ∙ ap (λ p. pat_step c.args.tables.now c.args.manner p c.args.ty G) (sym c.in-Variable.is)) c.in_ok-bind_one-in-Variable.ensures

pub bind_pat-returns-in_ok-bind_pat-in-Before : goal.bind_pat-returns-in_ok-bind_pat-in-Before
bind_pat-returns-in_ok-bind_pat-in-Before t c = as-onto c.args.tables.now _ _ _ _
    (λ G. head-onto c.args.tables.now c.args.manner c.in-Before.field-0 c.in-Before.argument c.in-Before.part c.args.ty G ∙ ap (λ p. pat_step c.args.tables.now c.args.manner p c.args.ty G) (sym c.in-Before.is))
    (subst (λ p. Onto c.args.tables.now c.args.variables.now c.bind_pat.new.variables (pat_step c.args.tables.now c.args.manner p c.in-Before.argument)) c.deref.ensures c.in_ok-bind_pat-in-Before.ensures)

pub bind_pat-returns-in_ok-bind_fields-in-Record : goal.bind_pat-returns-in_ok-bind_fields-in-Record
bind_pat-returns-in_ok-bind_fields-in-Record t c = as-onto c.args.tables.now _ _ _ _
    (λ G. record-onto c.args.tables.now c.args.manner c.in-Record.field-0 c.in-Record.fields c.args.ty G ∙ ap (λ p. pat_step c.args.tables.now c.args.manner p c.args.ty G) (sym c.in-Record.is))
    (subst (λ l. Onto c.args.tables.now c.args.variables.now c.bind_fields.new.variables (run (field_step c.args.tables.now c.args.manner) l)) c.deref-in-Record.ensures.value c.in_ok-bind_fields-in-Record.ensures)

pub bind_pat-returns-in_ok-bind_pat-in-As : goal.bind_pat-returns-in_ok-bind_pat-in-As
bind_pat-returns-in_ok-bind_pat-in-As t c = as-onto c.args.tables.now _ _ _ _
    (λ G. as-is-onto c.args.tables.now c.args.manner c.in-As.variable c.in-As.part c.args.ty G ∙ ap (λ p. pat_step c.args.tables.now c.args.manner p c.args.ty G) (sym c.in-As.is))
    (then-onto c.args.tables.now c.args.variables.now c.bind_one-in-As.new.variables c.bind_pat-in-As.new.variables (λ G. (c.in-As.variable, known_by c.args.tables.now c.args.manner (type_at c.args.tables.now.types c.args.ty)) ∷ G) (pat_step c.args.tables.now c.args.manner c.in-As.part.value c.args.ty)
    c.in_ok-bind_one-in-As.ensures
    (subst (λ p. Onto c.args.tables.now c.bind_one-in-As.new.variables c.bind_pat-in-As.new.variables (pat_step c.args.tables.now c.args.manner p c.args.ty)) c.deref-in-As.ensures c.in_ok-bind_pat-in-As.ensures))

pub bind_pat-returns-in_ok-bind_parts-in-Chain : goal.bind_pat-returns-in_ok-bind_parts-in-Chain
bind_pat-returns-in_ok-bind_parts-in-Chain t c = as-onto c.args.tables.now _ _ _ _
    (λ G. chain-onto c.args.tables.now c.args.manner c.in-Chain.side c.in-Chain.first c.in-Chain.parts c.args.ty G ∙ ap (λ p. pat_step c.args.tables.now c.args.manner p c.args.ty G) (sym c.in-Chain.is))
    (then-onto c.args.tables.now c.args.variables.now c.bind_pat-in-Chain.new.variables c.bind_parts.new.variables (pat_step c.args.tables.now c.args.manner c.in-Chain.first.value (first_type c.args.ty c.in-Chain.parts.items)) (run (part_step c.args.tables.now c.args.manner c.in-Chain.side) c.in-Chain.parts.items)
    (subst (λ n. Onto c.args.tables.now c.args.variables.now c.bind_pat-in-Chain.new.variables (pat_step c.args.tables.now c.args.manner c.in-Chain.first.value n)) (c.type_before-start.ensures ∙ ap (first_type c.args.ty) c.deref-in-Chain.ensures.value)
    (subst (λ p. Onto c.args.tables.now c.args.variables.now c.bind_pat-in-Chain.new.variables (pat_step c.args.tables.now c.args.manner p c.type_before-start.result)) c.deref-in-Chain-2.ensures c.in_ok-bind_pat-in-Chain.ensures))
    (subst (λ l. Onto c.args.tables.now c.bind_pat-in-Chain.new.variables c.bind_parts.new.variables (run (part_step c.args.tables.now c.args.manner c.in-Chain.side) l)) c.deref-in-Chain-3.ensures.value c.in_ok-bind_parts-in-Chain.ensures))
