use Rattle.std.proofs.Common.{refl, subst, arith}
use Rattle.elab_state.specs.Namings.{ComesBefore}
use Rattle.ty_instance.proofs.Going.{whole}
use Rattle.elab_state.proofs.Numbering.{namings-push}
use Rattle.elab_state.proofs.Reading.{written-named}
use Rattle.elab_steps.proofs.Changing.{begins-more}
use Rattle.datatype_forms.proofs.Stepping.{naming_pushed}
use Rattle.datatype_forms.proofs.naming.push_naming.Goals as goal

pub invariant_of-state : goal.invariant_of-state
invariant_of-state c = record {
  held = written-named _ _ _ _ _ _ c.push.ensures.items c.args.state.now.held;
  ordered = namings-push _ _ _ _ c.push.ensures.items c.args.state.now.ordered (record { beyond = c.requires; later = subst (λ rs. ComesBefore rs c.args.naming.before c.args.naming.stamp) c.deref.ensures.value (c.is_before.ensures c.if-not-is_before.false) });
  rows = c.args.state.now.rows;
}

pub returns : goal.returns
returns c = naming_pushed c.args.state.now _ c.args.naming c.len-number.result (record {
  solver = refl;
  written = refl;
  namings = begins-more _ _ _ c.in_ok-push.ensures.items;
  types = whole c.args.state.now.tables.types;
  constructors = whole c.args.state.now.tables.constructors;
  parameters = refl;
  strings = refl;
  next = refl;
  level = refl;
  declared = λ k. k;
}) c.in_ok-push.ensures.items (omega (arith, c.len-number.ensures, c.args.state.now.namings.ok.0))
