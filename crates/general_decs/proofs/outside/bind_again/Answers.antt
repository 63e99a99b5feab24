use Rattle.std.proofs.Common.{refl, ◌∙◌}
use Rattle.general_decs.proofs.Stepping.{onto-ends, onto-next}
use Rattle.general_decs.proofs.outside.bind_again.Goals as goal

pub loop-i-preserved : goal.loop-i-preserved
loop-i-preserved c = record {
  tyvars = onto-next c.args.scope.now.tyvars c.loop-i.scope.tyvars c.bind_tyvar.new.self.tyvars c.args.tyvars.now c.args.types.now c.loop-i.i c.index-tyvars-i.result _ c.requires c.loop-i-test.true c.index-tyvars-i.is refl
      c.loop-i.invariant.tyvars c.in_ok-bind_tyvar.ensures.bound;
  types = c.in_ok-bind_tyvar.ensures.types ∙ c.loop-i.invariant.types;
}

pub returns-clause-tyvars : goal.returns-clause-tyvars
returns-clause-tyvars c =
    onto-ends c.args.scope.now.tyvars c.loop-i.scope.tyvars c.args.tyvars.now c.args.types.now c.loop-i.i c.requires c.loop-i-test.false c.loop-i.invariant.tyvars
