use Rattle.std.proofs.Common.{sym, subst}
use Rattle.elab_state.specs.Namings.{AreNamings}
use Rattle.elab_state.specs.Readings.{AreWritten}
use Rattle.elab_state.proofs.Rows.{no-rows}
use Rattle.elab_state.proofs.state.State.new.Goals as goal

pub invariant_of-result : goal.invariant_of-result
invariant_of-result c = record {
  held = subst (AreWritten _ _) (sym c.new-3.ensures.items) tt;
  ordered = subst AreNamings (sym c.new-4.ensures.items) tt;
  rows = no-rows _ _ _ c.in_ok-tables.ensures.constructors;
}
