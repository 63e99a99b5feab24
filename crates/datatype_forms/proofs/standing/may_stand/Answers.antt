use Rattle.std.proofs.Common.{◌≡◌, ℕ, Some, subst}
use Rattle.ty_table.specs.TypeAt.{type_at}
use Rattle.datatype_forms.specs.Standing.{IsFitting}
use Rattle.datatype_forms.proofs.StandingRows.{stands}
use Rattle.datatype_forms.proofs.standing.may_stand.Goals as goal

some-same : {k j : ℕ} → Some k ≡ Some j → k ≡ j
some-same e = cc

pub returns-in-Some : goal.returns-in-Some
returns-in-Some c q =
    stands c.args.types.now c.args.row (c.is_declared.ensures.declared c.if-not-is_declared.false) (c.is_declared.ensures.equality c.if-not-is_declared.false) (Some c.in-Some.argument) c.in-Some.is
    (λ j e. subst (λ i. IsFitting c.args.row.datatype (type_at c.args.types.now i)) (some-same e) (c.fits.ensures q))
