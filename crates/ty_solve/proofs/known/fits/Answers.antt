use Rattle.std.proofs.Common.{length, sym, subst}
use Rattle.mlc_names.specs.declared.label.Label.{Label}
use Rattle.std.proofs.Common.{List, ℕ}
use Rattle.ty_table.specs.TypeAt.{types_at}
use Rattle.ty_solve.specs.Rows.{IsProper}
use Rattle.ty_solve.proofs.FieldLists.{no}
use Rattle.ty_solve.proofs.Knowing.{fits-both}
use Rattle.ty_solve.proofs.RowResults.{improper-as}
use Rattle.ty_solve.proofs.known.fits.Goals as goal

pub returns-then-not-proper : goal.returns-then-not-proper
returns-then-not-proper c =
    let ts = c.args.s.now.types in
    no (λ h. improper-as _ (IsProper c.deref.result.now (types_at ts c.deref-2.result.now)) (c.in_ok-proper.ensures ts).1 c.if-not-proper.true (subst (λ (l : List Label). IsProper l (types_at ts c.deref-2.result.now)) (sym c.deref.ensures.value) (subst (λ (x : List ℕ). IsProper c.args.row.now.labels.items (types_at ts x)) (sym c.deref-2.ensures.value) h.1.proper)))

pub returns : goal.returns
returns c =
    let ts = c.args.s.now.types in
    fits-both ts (length c.args.s.now.slots.items) c.args.row.now c.are_known.result c.deref-3.result.now c.deref-3.ensures.value (subst (λ (l : List Label). IsProper l (types_at ts c.args.row.now.types.items)) c.deref.ensures.value (subst (λ (x : List ℕ). IsProper c.deref.result.now (types_at ts x)) c.deref-2.ensures.value ((c.in_ok-proper.ensures ts).0 c.if-not-proper.false))) c.are_known.ensures
