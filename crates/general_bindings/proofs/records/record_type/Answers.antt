use Rattle.std.proofs.Common.{◌≡◌, slice_get, Some, refl, subst}
use Rattle.ty_core.specs.Types.{con, labels}
use Rattle.ty_table.specs.TypeAt.{types_at}
use Rattle.pattern_tests.proofs.of_match_types.Seeing.{keeps-by}
use Rattle.general_bindings.proofs.Rows.{record-stands}
use Rattle.general_bindings.proofs.records.record_type.Goals as goal

pub returns-clause-is : goal.returns-clause-is
returns-clause-is c =
    let w = c.spot_types.new.work in
    let q = c.in_ok-types.ensures in
    record-stands w _ c.in_ok-k.k c.in_ok-named.named.items c.in_ok-types.types.items c.args.spots.now (keeps-by w _ c.in_ok-k.ensures.earlier_stay refl refl refl refl refl refl refl) c.in_ok-named.ensures q.is q.held
    (subst (λ l. slice_get c.apply.new.self c.in_ok-k.k ≡ Some (con (labels c.in_ok-named.named.items) (types_at w.tables.types l))) c.deref.ensures.value c.in_ok-k.ensures.held)
