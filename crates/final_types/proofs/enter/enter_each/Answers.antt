use Rattle.std.proofs.Common.{◌+◌, None, add-one, take, sym, subst, arith}
use Rattle.ty_instance.proofs.Going.{stays-on}
use Rattle.final_types.specs.Images.{AreEntered}
use Rattle.final_types.specs.Making.{namings_of}
use Rattle.final_types.specs.Nodes.{types_of}
use Rattle.final_types.proofs.Entering.{entered-all, entered-next}
use Rattle.final_types.proofs.enter.enter_each.Goals as goal

pub loop-i-preserved : goal.loop-i-preserved
loop-i-preserved c = record {
  stays = stays-on c.args.types.now c.loop-i.types c.enter.new.types c.loop-i.invariant.stays c.in_ok-number.ensures.earlier_stay;
  made = c.in_ok-number.ensures.made;
  entered = λ g end.
      subst (AreEntered (types_of c.args.source.now.solver.now) c.enter.new.types (namings_of c.args.source.now) g (take (c.loop-i.i + 1) c.args.written.now)) (sym c.in_ok-push.ensures.items)
      (rw add-one (entered-next (types_of c.args.source.now.solver.now) c.loop-i.types c.enter.new.types (namings_of c.args.source.now) g c.args.written.now c.loop-i.numbers.items c.loop-i.i c.in_ok-number.number
      (record { ty = 0; naming = None }) c.loop-i-test.true c.in_ok-number.ensures.earlier_stay (c.loop-i.invariant.entered g end) (c.in_ok-number.ensures.is g end)));
}

pub returns-clause-entered : goal.returns-clause-entered
returns-clause-entered c = λ g end.
    entered-all (types_of c.args.source.now.solver.now) c.loop-i.types (namings_of c.args.source.now) g c.args.written.now c.loop-i.numbers.items c.loop-i.i (omega (arith, c.loop-i-test.false)) (c.loop-i.invariant.entered g end)
