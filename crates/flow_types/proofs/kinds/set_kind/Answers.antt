use Rattle.std.proofs.Common.{length}
use Rattle.flow_types.proofs.Entered.{set-kinds}
use Rattle.flow_types.proofs.kinds.set_kind.Goals as goal

pub returns-clause-kinds : goal.returns-clause-kinds
returns-clause-kinds c =
    set-kinds c.args.kinds.now.items c.make_place.new.kinds.items c.args.bound.variable (length c.args.kinds.now.items) c.args.bound.what c.in_ok-make_place.ensures.long c.in_ok-make_place.ensures.same
