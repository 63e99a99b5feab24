use Rattle.std.proofs.Common.{length, refl, sym, ◌∙◌}
use Rattle.ty_instance.proofs.Going.{whole}
use Rattle.elab_steps.proofs.Changing.{begins-more}
use Rattle.datatype_forms.proofs.StandingRows.{constructors-more}
use Rattle.datatype_forms.proofs.Stepping.{none_found, row_pushed, rows_kept}
use Rattle.datatype_forms.proofs.rows.push_row.Goals as goal

pub invariant_of-state : goal.invariant_of-state
invariant_of-state c = record {
  held = c.args.state.now.held;
  ordered = c.args.state.now.ordered;
  rows = rows_kept c.push.result (length c.args.state.now.tables.types) c.args.state.now.tables.constructors _ c.args.row c.push.ensures.ok c.push.ensures.err c.args.state.now.rows c.requires;
}

pub returns : goal.returns
returns c = row_pushed c.args.state.now _ c.args.row (record {
  solver = refl;
  written = refl;
  namings = whole c.args.state.now.namings.items;
  types = whole c.args.state.now.tables.types;
  constructors = begins-more _ _ _ c.in_ok-push.ensures.ok;
  parameters = refl;
  strings = refl;
  next = refl;
  level = refl;
  declared = constructors-more c.args.state.now.tables.types c.args.state.now.tables.constructors _ c.args.row c.in_ok-push.ensures.ok (c.may_stand.ensures c.if-not-may_stand.false);
}) refl c.in_ok-push.ensures.ok
    (none_found c.args.state.now.tables.types c.args.state.now.tables.constructors c.args.row c.find.result (c.find.ensures.found c.args.state.now.tables.types) (sym c.is_some.ensures ∙ c.if-is_some.false))
