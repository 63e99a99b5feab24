use Rattle.std.proofs.Common.{refl}
use Rattle.ty_solve.specs.Said.{said}
use Rattle.elab_steps.proofs.Changing.{unified_grows, unified_equal}
use Rattle.run_end.proofs.Choosing.{leaves-others}
use Rattle.run_end.proofs.choose.bind.Goals as goal

pub returns-in-Ok-clause-grows : goal.returns-in-Ok-clause-grows
returns-in-Ok-clause-grows c = unified_grows c.args.state.now _ c.args.own c.args.ty (record {
  stays = record { written = refl; namings = refl; tables = refl; next = refl; level = refl };
  types = c.in-Ok.ensures.types;
  count = c.in-Ok.ensures.same_length;
  general = c.in-Ok.ensures.general;
  fall = c.in-Ok.ensures.fall;
  rest = c.in-Ok.ensures.rest;
  rest_limits = c.in-Ok.ensures.rest_limits;
  first = c.requires.own;
  second = c.requires.ty;
})

pub returns-in-Ok-clause-equal : goal.returns-in-Ok-clause-equal
returns-in-Ok-clause-equal c = unified_equal c.args.state.now _ c.args.own c.args.ty (record {
  stays = record { written = refl; namings = refl; tables = refl; next = refl; level = refl };
  types = c.in-Ok.ensures.types;
  count = c.in-Ok.ensures.same_length;
  general = c.in-Ok.ensures.general;
  fall = c.in-Ok.ensures.fall;
  rest = c.in-Ok.ensures.rest;
  rest_limits = c.in-Ok.ensures.rest_limits;
  first = c.requires.own;
  second = c.requires.ty;
}) c.requires.own c.requires.ty

pub returns-in-Ok-clause-others : goal.returns-in-Ok-clause-others
returns-in-Ok-clause-others c =
    leaves-others c.args.state.now (said c.unify.new.self.subst) c.args.own c.args.ty c.args.variable c.in-Ok.ensures.rest c.requires.is_variable
    c.requires.is_named c.requires.is_free
