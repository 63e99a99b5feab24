use Rattle.std.proofs.Common.{refl}
use Rattle.elab_steps.proofs.Changing.{unified_grows, unified_equal}
use Rattle.elab_steps.proofs.step.unify.Goals as goal

pub returns-in-Ok-clause-grows : goal.returns-in-Ok-clause-grows
returns-in-Ok-clause-grows c = unified_grows c.args.state.now _ c.args.a c.args.b (record {
  stays = record { written = refl; namings = refl; tables = refl; next = refl; level = refl };
  types = c.in-Ok.ensures.types;
  count = c.in-Ok.ensures.same_length;
  general = c.in-Ok.ensures.general;
  fall = c.in-Ok.ensures.fall;
  rest = c.in-Ok.ensures.rest;
  rest_limits = c.in-Ok.ensures.rest_limits;
  first = c.requires.a;
  second = c.requires.b;
})

pub returns-in-Ok-clause-equal : goal.returns-in-Ok-clause-equal
returns-in-Ok-clause-equal c = unified_equal c.args.state.now _ c.args.a c.args.b (record {
  stays = record { written = refl; namings = refl; tables = refl; next = refl; level = refl };
  types = c.in-Ok.ensures.types;
  count = c.in-Ok.ensures.same_length;
  general = c.in-Ok.ensures.general;
  fall = c.in-Ok.ensures.fall;
  rest = c.in-Ok.ensures.rest;
  rest_limits = c.in-Ok.ensures.rest_limits;
  first = c.requires.a;
  second = c.requires.b;
}) c.requires.a c.requires.b
