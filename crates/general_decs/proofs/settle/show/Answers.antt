use Rattle.std.proofs.Common.{refl}
use Rattle.general_decs.proofs.Showing.{shown-now}
use Rattle.general_decs.proofs.settle.show.Goals as goal

pub returns-clause-shown : goal.returns-clause-shown
returns-clause-shown c l t =
    let e = c.in_ok-ty.ensures in
    shown-now c.args.state.now c.settled_type.new.state l c.args.list c.args.some c.both.result c.args.variable c.args.general c.in_ok-ty.ty _ e.grows (e.tidy l t) e.settles e.«open» e.same c.both.ensures refl

pub returns-clause-keeps : goal.returns-clause-keeps
returns-clause-keeps c = c.in_ok-ty.ensures.settles.keeps
