use Rattle.std.proofs.Common.{◌++◌, map, sym, ap, ◌∙◌}
use Rattle.ty_table.specs.TypeAt.{type_at}
use Rattle.ir_poly.specs.Types.{initial_constructors}
use Rattle.ir_tables.specs.Rows.{constructors_at}
use Rattle.monomorphise.specs.Counting.{expansion_within, greatest_expansion}
use Rattle.mono_copy.proofs.Changing.{passed}
use Rattle.mono_enter.specs.of_mono_state.Seen.{Held, held_of, Later, sign_of}
use Rattle.mono_enter.proofs.of_mono_state.Growing.{same-longer, with-types}
use Rattle.mono_pass.proofs.Made.{is-made}
use Rattle.mono_pass.proofs.make.make.Goals as goal

pub returns-clause-made : goal.returns-clause-made
returns-clause-made c = λ strings e W.
    let C = c.args.copier.now in
    let H0 = held_of C in
    let H1 : Held = record { types = c.count.new.closed; lists = C.lists; copies = C.copies } in
    let L0 : Later H0 H0 = record { longer = same-longer H0; types_once = c.len-types_once.ensures.one_to_one; lists_once = c.len-lists_once.ensures.once } in
    let L1 : Later H0 H1 = record { longer = with-types H0 c.count.new.closed c.in_ok-expansion.ensures.earlier_stay; types_once = c.len-later_once.ensures.one_to_one; lists_once = c.len-lists_once.ensures.once } in
    let ws = ap (map (sign_of strings H1)) c.reverse.ensures.items ∙ W.words H1 L1 in
    is-made (constructors_at c.with_initial.new.types c.in_ok-constructors.constructors) (initial_constructors ++ constructors_at c.args.sources.now c.args.program.now) strings e
    (record { types = c.in_ok-types.field-0.types; expansion = c.in_ok-expansion.expansion; body = c.in_ok-types.field-0.body }) c.in_ok-constructors.ensures (c.in_ok-types.ensures.types strings e ws)
    (c.in_ok-expansion.ensures.counted e (ap (map (type_at C.closed)) (c.deref.ensures.value ∙ c.reverse-2.ensures.items) ∙ W.compared H0 L0) W.nodes)
    (c.in_ok-types.ensures.body strings e ws)

pub returns-in_err-expansion-clause-too_large : goal.returns-in_err-expansion-clause-too_large
returns-in_err-expansion-clause-too_large c =
    let C = c.args.copier.now in
    let H0 = held_of C in
    let L0 : Later H0 H0 = record { longer = same-longer H0; types_once = c.len-types_once.ensures.one_to_one; lists_once = c.len-lists_once.ensures.once } in
    passed c.from_residual-in_err-expansion.result c.in_err-expansion.field-0.0 c.from_residual-in_err-expansion.ensures.1 _ _
    (λ past strings e W. ap (λ k. expansion_within greatest_expansion k e) (sym c.in_ok-constructors.ensures) ∙ past e (ap (map (type_at C.closed)) (c.deref.ensures.value ∙ c.reverse-2.ensures.items) ∙ W.compared H0 L0) W.nodes)
    c.in_err-expansion.ensures.past
