use Rattle.std.proofs.Common.{◌≡◌, ◌↔◌, IsTrue, subst}
use Rattle.ty_table.specs.TypeAt.{type_at}
use Rattle.ir_uses.proofs.Putting.{changed-image}
use Rattle.ir_uses.proofs.using.is_changed.Goals as goal

pub returns : goal.returns
returns c = subst (λ u. IsTrue c.in_ok-yes.yes ↔ (type_at c.args.types.now c.args.t ≡ u))
    (changed-image c.args.types.now c.args.parameters.now c.args.ts.now c.in_ok-images.images c.in_ok-images.ensures (type_at c.args.types.now c.args.body)) c.in_ok-yes.ensures
