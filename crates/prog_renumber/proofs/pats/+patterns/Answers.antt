use Rattle.std.proofs.Common.{map, add-one, refl, sym, ap, ◌∙◌, arith}
use Rattle.prog_tree.specs.TreeOf.{pat_of, pat_field_of, pat_part_of}
use Rattle.prog_renumber.specs.Renumbered.{renumbered}
use Rattle.prog_renumber.proofs.Each.{next-made, all-made, of-ok, on-ok}
use Rattle.prog_renumber.proofs.PatternNodes.{field-renumbered, part-renumbered, before-renumbered, as-renumbered, record-renumbered, chain-renumbered}
use Rattle.prog_renumber.proofs.pats.+patterns.Goals as goal

pub boxed_pattern-returns : goal.boxed_pattern-returns
boxed_pattern-returns t c = on-ok c.boxed.result (λ new e Q. ap (pat_of Q) e ∙ c.in_ok-made.ensures Q) c.boxed.ensures

pub pattern-returns-in_ok-made-in-Before : goal.pattern-returns-in_ok-made-in-Before
pattern-returns-in_ok-made-in-Before t c = λ Q.
    before-renumbered c.args.numbers.now Q c.in-Before.head c.in-Before.head c.in-Before.ty c.at.result c.in-Before.argument c.in_ok-made-in-Before.made refl c.at.ensures
    (c.in_ok-made-in-Before.ensures Q ∙ ap (pat_of (renumbered c.args.numbers.now Q)) c.deref.ensures)
    ∙ ap (pat_of (renumbered c.args.numbers.now Q)) (sym c.in-Before.is)

pub pattern-returns-in_ok-made-in-Record : goal.pattern-returns-in_ok-made-in-Record
pattern-returns-in_ok-made-in-Record t c = λ Q.
    record-renumbered c.args.numbers.now Q c.in-Record.further c.in-Record.further c.in-Record.fields c.in_ok-made-in-Record.made refl
    (c.in_ok-made-in-Record.ensures Q ∙ ap (map (pat_field_of (renumbered c.args.numbers.now Q))) c.deref-in-Record.ensures.value)
    ∙ ap (pat_of (renumbered c.args.numbers.now Q)) (sym c.in-Record.is)

pub pattern-returns-in_ok-made-in-As : goal.pattern-returns-in_ok-made-in-As
pattern-returns-in_ok-made-in-As t c = λ Q.
    as-renumbered c.args.numbers.now Q c.in-As.variable c.in-As.variable c.in-As.pat c.in_ok-made-in-As.made refl
    (c.in_ok-made-in-As.ensures Q ∙ ap (pat_of (renumbered c.args.numbers.now Q)) c.deref-in-As.ensures)
    ∙ ap (pat_of (renumbered c.args.numbers.now Q)) (sym c.in-As.is)

pub pattern-returns-in-Ok : goal.pattern-returns-in-Ok
pattern-returns-in-Ok t c = λ Q.
    let first = of-ok c.boxed_pattern-in-Chain.result c.in-Ok.first _ c.boxed_pattern-in-Chain.ensures c.in-Ok.ensures.first in
    let parts = of-ok c.pattern_parts.result c.in-Ok.parts _ c.pattern_parts.ensures c.in-Ok.ensures.second in
    chain-renumbered c.args.numbers.now Q c.in-Chain.side c.in-Chain.side c.in-Chain.first c.in-Ok.first c.in-Chain.parts c.in-Ok.parts refl
    (first Q ∙ ap (pat_of (renumbered c.args.numbers.now Q)) c.deref-in-Chain.ensures)
    (parts Q ∙ ap (map (pat_part_of (renumbered c.args.numbers.now Q))) c.deref-in-Chain-2.ensures.value)
    ∙ ap (pat_of (renumbered c.args.numbers.now Q)) (sym c.in-Chain.is)

pub pattern_field-returns : goal.pattern_field-returns
pattern_field-returns t c = λ Q. field-renumbered c.args.numbers.now Q c.args.field.now _ refl c.at.ensures (c.in_ok-pat.ensures Q)

pub pattern_fields-loop-i-preserved : goal.pattern_fields-loop-i-preserved
pattern_fields-loop-i-preserved t c = λ Q.
    ap (map (pat_field_of Q)) c.in_ok-push.ensures.items
    ∙ rw add-one (next-made (pat_field_of Q) (pat_field_of (renumbered c.args.numbers.now Q)) c.loop-i.i c.args.fields.now c.loop-i.made.items c.in_ok-pattern_field.field-0 c.index-fields-i.result
    (c.loop-i.invariant Q) c.loop-i-test.true (c.in_ok-pattern_field.ensures Q ∙ ap (pat_field_of (renumbered c.args.numbers.now Q)) c.index-fields-i.is))

pub pattern_fields-returns : goal.pattern_fields-returns
pattern_fields-returns t c = λ Q. all-made (pat_field_of Q) (pat_field_of (renumbered c.args.numbers.now Q)) c.loop-i.i c.args.fields.now c.loop-i.made.items (c.loop-i.invariant Q) (omega (arith, c.loop-i-test.false))

pub pattern_part-returns : goal.pattern_part-returns
pattern_part-returns t c = λ Q. part-renumbered c.args.numbers.now Q c.args.part.now _ refl c.pair.ensures (c.in_ok-pat.ensures Q)

pub pattern_parts-loop-i-preserved : goal.pattern_parts-loop-i-preserved
pattern_parts-loop-i-preserved t c = λ Q.
    ap (map (pat_part_of Q)) c.in_ok-push.ensures.items
    ∙ rw add-one (next-made (pat_part_of Q) (pat_part_of (renumbered c.args.numbers.now Q)) c.loop-i.i c.args.parts.now c.loop-i.made.items c.in_ok-pattern_part.field-0 c.index-parts-i.result
    (c.loop-i.invariant Q) c.loop-i-test.true (c.in_ok-pattern_part.ensures Q ∙ ap (pat_part_of (renumbered c.args.numbers.now Q)) c.index-parts-i.is))

pub pattern_parts-returns : goal.pattern_parts-returns
pattern_parts-returns t c = λ Q. all-made (pat_part_of Q) (pat_part_of (renumbered c.args.numbers.now Q)) c.loop-i.i c.args.parts.now c.loop-i.made.items (c.loop-i.invariant Q) (omega (arith, c.loop-i-test.false))
