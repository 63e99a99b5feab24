use Rattle.std.proofs.Common.{◌∙◌, [], refl, arith}
use Rattle.elab_steps.proofs.Growing.{grows_same, grows_on}
use Rattle.general_decs.proofs.Beginning.{came-ends, came-next, further-next, named-ends, named-next, rest-next}
use Rattle.general_decs.proofs.begin.scope_tyvars.Goals as goal

pub loop-i-init : goal.loop-i-init
loop-i-init c = record {
  grows = grows_same c.args.state.now;
  count = omega arith;
  next = refl;
  context = c.requires.context;
  rest = refl;
  types = refl;
  further = record { own = []; is = refl };
  named = refl;
  came = λ W k. refl;
}

pub scope_tyvar-requires : goal.scope_tyvar-requires
scope_tyvar-requires c = record { context = c.loop-i.invariant.context }

pub loop-i-preserved : goal.loop-i-preserved
loop-i-preserved c =
    let s = c.args.state.now in
    let e = c.in_ok-scope_tyvar.ensures in
    let l = c.loop-i.invariant in
    record {
      grows = grows_on s c.loop-i.state c.scope_tyvar.new.state l.grows e.grows;
      count = let a = l.count in let b = e.made in omega (arith, a, b);
      next = e.next ∙ l.next;
      context = e.context;
      rest = rest-next c.args.context.now c.loop-i.context c.scope_tyvar.new.context l.rest e.rest;
      types = e.types ∙ l.types;
      further = further-next c.args.context.now.types.tyvars c.loop-i.context.types.tyvars c.scope_tyvar.new.context.types.tyvars l.further e.further;
      named = named-next c.args.scoped.now c.loop-i.i c.index-scoped-i.result c.args.context.now.types.tyvars c.loop-i.context.types.tyvars c.scope_tyvar.new.context.types.tyvars
          c.loop-i-test.true c.index-scoped-i.is l.named e.named;
      came = came-next s c.loop-i.state c.scope_tyvar.new.state c.args.scoped.now c.loop-i.i c.index-scoped-i.result c.args.context.now.types.tyvars c.loop-i.context.types.tyvars
          c.scope_tyvar.new.context.types.tyvars c.loop-i-test.true c.index-scoped-i.is e.grows l.count l.came e.came;
    }

pub returns-clause-came : goal.returns-clause-came
returns-clause-came c = came-ends c.loop-i.state _ c.loop-i.i c.args.scoped.now c.args.context.now.types.tyvars c.loop-i.context.types.tyvars c.loop-i-test.false c.loop-i.invariant.came

pub returns-clause-named : goal.returns-clause-named
returns-clause-named c = named-ends c.loop-i.i c.args.scoped.now c.args.context.now.types.tyvars c.loop-i.context.types.tyvars c.loop-i-test.false c.loop-i.invariant.named
