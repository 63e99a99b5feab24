use Rattle.std.proofs.Common.{◌≡◌, slice_get, Some, refl, subst}
use Rattle.ty_core.specs.Types.{con, name}
use Rattle.ty_table.specs.TypeAt.{types_at}
use Rattle.match_steps.proofs.of_match_types.Seeing.{keeps-by}
use Rattle.exp_steps.proofs.Leaves.{named-stands}
use Rattle.exp_steps.proofs.types.named_type.Goals as goal

pub returns-clause-is : goal.returns-clause-is
returns-clause-is c =
    let w = c.scoped_types.new.work in
    let q = c.in_ok-parts.ensures in
    named-stands w _ c.in_ok-k.k c.args.name c.in_ok-parts.parts.items c.args.types.now (keeps-by w _ c.in_ok-k.ensures.earlier_stay refl refl refl refl refl refl refl) q.is q.held
    (subst (λ l. slice_get c.apply.new.self c.in_ok-k.k ≡ Some (con (name c.args.name) (types_at w.tables.types l))) c.deref.ensures.value c.in_ok-k.ensures.held)
