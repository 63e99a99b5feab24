use Rattle.std.proofs.Common.{sym, ap, ◌∙◌, arith}
use Rattle.elab_steps.proofs.Changing.{if-ok}
use Rattle.elab_steps.proofs.Growing.{type_later}
use Rattle.sml_tree.specs.TreeOf.{pat_of}
use Rattle.dec_forms.proofs.of_pat_elab.Sources.{source-As, source-Chain, source-Typed, source-Vid, source-Wild}
use Rattle.rec_groups.proofs.Reserving.{as_reserved, no-parts, reserves_at, typed_reserved, wild_reserved}
use Rattle.rec_groups.proofs.reserve.+reserve_all.Goals as goal

pub returns-in-Wild : goal.returns-in-Wild
returns-in-Wild t c =
    let S = c.args.state.now in
    reserves_at S S _ _ c.args.ty c.args.variables.now.items (ap pat_of c.in-Wild.is ∙ source-Wild c.in-Wild.field-0) (wild_reserved S c.in-Wild.field-0 c.args.ty c.args.variables.now.items c.requires.none)

pub returns-in-Vid : goal.returns-in-Vid
returns-in-Vid t c =
    if-ok c.reserve_long.result
    (λ u k. reserves_at c.args.state.now c.reserve_long.new.state _ _ c.args.ty c.reserve_long.new.variables.items (ap pat_of c.in-Vid.is ∙ source-Vid c.in-Vid.place c.in-Vid.long) k)
    c.reserve_long.ensures

pub returns-in-Typed : goal.returns-in-Typed
returns-in-Typed t c =
    let S = c.args.state.now in
    let T = c.reserve_all.new.state in
    let vars = c.reserve_all.new.variables.items in
    if-ok c.reserve_all.result
    (λ u k.
    reserves_at S T _ _ c.args.ty vars (ap pat_of c.in-Typed.is ∙ source-Typed c.in-Typed.field-0 c.in-Typed.inner c.in-Typed.field-2)
    (typed_reserved S T c.in-Typed.field-0 (pat_of c.in-Typed.inner.value) _ c.args.ty vars (reserves_at S T _ _ c.args.ty vars (ap pat_of (sym c.deref.ensures)) k))) c.reserve_all.ensures

pub reserve_variable-requires : goal.reserve_variable-requires
reserve_variable-requires t c = record {
  ty = type_later c.args.state.now c.reserve_all-in-As.new.state c.args.ty c.in_ok-reserve_all-in-As.ensures.grows c.requires.ty;
}

pub returns-in_ok-reserve_all-in-As : goal.returns-in_ok-reserve_all-in-As
returns-in_ok-reserve_all-in-As t c =
    let S = c.args.state.now in
    let M = c.reserve_all-in-As.new.state in
    let T = c.reserve_variable.new.state in
    let before = c.reserve_all-in-As.new.variables.items in
    let vars = c.reserve_variable.new.variables.items in
    if-ok c.reserve_variable.result
    (λ u k.
    reserves_at S T _ _ c.args.ty vars (ap pat_of c.in-As.is ∙ source-As c.in-As.place c.in-As.vid c.in-As.field-2 c.in-As.inner)
    (as_reserved S M T c.in-As.place c.in-As.vid _ (pat_of c.in-As.inner.value) c.args.ty before vars
    (reserves_at S M _ _ c.args.ty before (ap pat_of (sym c.deref-in-As.ensures)) c.in_ok-reserve_all-in-As.ensures) k)) c.reserve_variable.ensures

pub returns-else-len-gt0 : goal.returns-else-len-gt0
returns-else-len-gt0 t c =
    let S = c.args.state.now in
    let T = c.reserve_all-in-Chain.new.state in
    let vars = c.reserve_all-in-Chain.new.variables.items in
    if-ok c.reserve_all-in-Chain.result
    (λ u k.
    reserves_at S T _ _ c.args.ty vars
    (ap pat_of c.in-Chain.is ∙ source-Chain c.in-Chain.place c.in-Chain.field-1 c.in-Chain.first c.in-Chain.parts
    ∙ no-parts c.in-Chain.field-1 c.in-Chain.place (pat_of c.in-Chain.first.value) c.in-Chain.parts.items (let e = c.len.ensures in omega (arith, e, c.if-len-gt0.false)))
    (reserves_at S T _ _ c.args.ty vars (ap pat_of (sym c.deref-in-Chain.ensures)) k)) c.reserve_all-in-Chain.ensures
