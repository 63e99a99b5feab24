use Rattle.std.proofs.Common.{◌+◌, drop, sym, ap, ◌∙◌}
use Rattle.ty_table.specs.TypeAt.{type_at}
use Rattle.ir_tables.specs.Tables.{strings_of}
use Rattle.prog_known.specs.Lists.{hold}
use Rattle.prog_parts.specs.of_prog_binds.Chains.{first_type}
use Rattle.prog_parts.specs.Patterns.{outer_type, next_part, has_size}
use Rattle.prog_parts.proofs.Truths.{two, ok-as}
use Rattle.prog_parts.proofs.Loops.{asking-starts, asking-more, asking-ends, carrying-starts, carrying-more, carrying-ends}
use Rattle.prog_pats.specs.Fits.{pat_fits, before_fits, record_fits, field_fits, operand_fits, chain_fits}
use Rattle.prog_pats.proofs.Nodes.{any-fits, variable-fits, constant-fits, constructor-fits, exception-fits, as-fits, before-fits, record-fits, chain-fits}
use Rattle.prog_pats.proofs.pats.+pats.Goals as goal

pub check_fields-loop-i-init : goal.check_fields-loop-i-init
check_fields-loop-i-init t c = asking-starts (field_fits c.args.tables.now c.args.environment.now c.args.ty) c.args.fields.now

pub check_fields-loop-i-preserved : goal.check_fields-loop-i-preserved
check_fields-loop-i-preserved t c = asking-more (field_fits c.args.tables.now c.args.environment.now c.args.ty) c.args.fields.now c.loop-i.i c.index-fields-i.result c.loop-i.so_far c.in_ok-one.one c.both-so_far.result
    c.loop-i-test.true c.index-fields-i.is c.in_ok-one.ensures c.both-so_far.ensures c.loop-i.invariant

pub check_fields-returns : goal.check_fields-returns
check_fields-returns t c = asking-ends (field_fits c.args.tables.now c.args.environment.now c.args.ty) c.args.fields.now c.loop-i.i c.loop-i.so_far c.loop-i-test.false c.loop-i.invariant

pub check_parts-loop-i-init : goal.check_parts-loop-i-init
check_parts-loop-i-init t c = carrying-starts (chain_fits c.args.tables.now c.args.environment.now c.args.side) (next_part c.args.side) c.args.ty c.args.parts.now

pub check_parts-loop-i-preserved : goal.check_parts-loop-i-preserved
check_parts-loop-i-preserved t c = carrying-more (chain_fits c.args.tables.now c.args.environment.now c.args.side) (next_part c.args.side) c.args.ty c.args.parts.now c.loop-i.i c.index-parts-i.result c.loop-i.now c.type_on-now.result
    c.loop-i.so_far c.in_ok-one.one c.both-so_far.result c.loop-i-test.true c.index-parts-i.is
    (c.in_ok-one.ensures ∙ ap (λ o. operand_fits c.args.tables.now c.args.environment.now c.index-parts-i.result o c.type_of_part-own.result) c.type_around-outer.ensures
    ∙ ap (operand_fits c.args.tables.now c.args.environment.now c.index-parts-i.result (outer_type c.args.side c.loop-i.now (drop (c.loop-i.i + 1) c.args.parts.now))) c.type_of_part-own.ensures)
    c.both-so_far.ensures (sym c.type_on-now.ensures) c.loop-i.invariant

pub check_parts-returns : goal.check_parts-returns
check_parts-returns t c = carrying-ends (chain_fits c.args.tables.now c.args.environment.now c.args.side) (next_part c.args.side) c.args.ty c.args.parts.now c.loop-i.i c.loop-i.now c.loop-i.so_far c.loop-i-test.false c.loop-i.invariant

pub check_before-returns : goal.check_before-returns
check_before-returns t c = two c.both-2.ensures c.in_ok-fits.ensures (two c.both.ensures c.in_ok-known.ensures c.in_ok-inner.ensures)

pub check_record-returns : goal.check_record-returns
check_record-returns t c = two c.both.ensures c.in_ok-right.ensures
    (c.has_size-sized.ensures ∙ ap (λ w. has_size w (type_at c.args.tables.now.types c.args.ty)) c.wanted_size-wanted.ensures)

pub check_field-returns : goal.check_field-returns
check_field-returns t c = two c.both.ensures c.in_ok-there.ensures c.in_ok-inner.ensures

pub check_part-returns : goal.check_part-returns
check_part-returns t c = two c.both.ensures c.in_ok-fits.ensures c.in_ok-inner.ensures

pub check_pat-returns-in-Any : goal.check_pat-returns-in-Any
check_pat-returns-in-Any t c = any-fits c.args.tables.now c.args.environment.now c.args.ty ∙ ap (λ p. pat_fits c.args.tables.now c.args.environment.now p c.args.ty) (sym c.in-Any.is)

pub check_pat-returns-in-Variable : goal.check_pat-returns-in-Variable
check_pat-returns-in-Variable t c = variable-fits c.args.tables.now c.args.environment.now c.args.ty c.in-Variable.field-0 ∙ ap (λ p. pat_fits c.args.tables.now c.args.environment.now p c.args.ty) (sym c.in-Variable.is)

pub check_pat-returns-in-Constant : goal.check_pat-returns-in-Constant
check_pat-returns-in-Constant t c = c.has_literal.ensures.decided (strings_of c.args.tables.now) ∙ constant-fits c.args.tables.now c.args.environment.now c.args.ty c.in-Constant.constant
    ∙ ap (λ p. pat_fits c.args.tables.now c.args.environment.now p c.args.ty) (sym c.in-Constant.is)

pub check_pat-returns-in_ok-so-in-Constructor : goal.check_pat-returns-in_ok-so-in-Constructor
check_pat-returns-in_ok-so-in-Constructor t c = c.in_ok-so-in-Constructor.ensures.decided ∙ constructor-fits c.args.tables.now c.args.environment.now c.args.ty c.in-Constructor.constructor
    ∙ ap (λ p. pat_fits c.args.tables.now c.args.environment.now p c.args.ty) (sym c.in-Constructor.is)

pub check_pat-returns-in-Exception : goal.check_pat-returns-in-Exception
check_pat-returns-in-Exception t c = c.check_exception.ensures ∙ exception-fits c.args.tables.now c.args.environment.now c.args.ty c.in-Exception.exception
    ∙ ap (λ p. pat_fits c.args.tables.now c.args.environment.now p c.args.ty) (sym c.in-Exception.is)

pub check_pat-returns-in-Before : goal.check_pat-returns-in-Before
check_pat-returns-in-Before t c = ok-as c.check_before.result _ _
    (ap (λ p. before_fits c.args.tables.now c.args.environment.now c.in-Before.head c.in-Before.argument p c.args.ty) c.deref.ensures
    ∙ before-fits c.args.tables.now c.args.environment.now c.args.ty c.in-Before.head c.in-Before.argument c.in-Before.part
    ∙ ap (λ p. pat_fits c.args.tables.now c.args.environment.now p c.args.ty) (sym c.in-Before.is)) c.check_before.ensures

pub check_pat-returns-in-Record : goal.check_pat-returns-in-Record
check_pat-returns-in-Record t c = ok-as c.check_record.result _ _
    (ap (λ l. record_fits c.args.tables.now c.args.environment.now c.in-Record.further l c.args.ty) c.deref-in-Record.ensures.value
    ∙ record-fits c.args.tables.now c.args.environment.now c.args.ty c.in-Record.further c.in-Record.fields
    ∙ ap (λ p. pat_fits c.args.tables.now c.args.environment.now p c.args.ty) (sym c.in-Record.is)) c.check_record.ensures

pub check_pat-returns-in-As : goal.check_pat-returns-in-As
check_pat-returns-in-As t c = ok-as c.check_pat.result _ _
    (ap (λ p. pat_fits c.args.tables.now c.args.environment.now p c.args.ty) c.deref-in-As.ensures
    ∙ as-fits c.args.tables.now c.args.environment.now c.args.ty c.in-As.field-0 c.in-As.part
    ∙ ap (λ p. pat_fits c.args.tables.now c.args.environment.now p c.args.ty) (sym c.in-As.is)) c.check_pat.ensures

pub check_pat-returns-in_ok-goes_on-in-Chain : goal.check_pat-returns-in_ok-goes_on-in-Chain
check_pat-returns-in_ok-goes_on-in-Chain t c =
    let T = c.args.tables.now in
    let E = c.args.environment.now in
    two c.both.ensures
    (c.in_ok-begins-in-Chain.ensures ∙ ap (λ p. pat_fits T E p c.type_before-start.result) c.deref-in-Chain-2.ensures
    ∙ ap (pat_fits T E c.in-Chain.first.value) (c.type_before-start.ensures ∙ ap (first_type c.args.ty) c.deref-in-Chain.ensures.value))
    (c.in_ok-goes_on-in-Chain.ensures ∙ ap (hold (chain_fits T E c.in-Chain.side) (next_part c.in-Chain.side) c.args.ty) c.deref-in-Chain-3.ensures.value)
    ∙ chain-fits T E c.args.ty c.in-Chain.side c.in-Chain.first c.in-Chain.parts ∙ ap (λ p. pat_fits T E p c.args.ty) (sym c.in-Chain.is)
