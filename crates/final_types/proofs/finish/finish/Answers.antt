use Rattle.std.proofs.Common.{refl, ap₂, ◌∙◌}
use Rattle.std.specs.Prelude.{slice_get}
use Rattle.elab_state.specs.Readings.{type_if}
use Rattle.elab_state.specs.States.{types_in}
use Rattle.elab_state.proofs.Reading.{rows-at-stay}
use Rattle.final_types.proofs.finish.finish.Goals as goal

pub returns-in-Ok : goal.returns-in-Ok
returns-in-Ok c = record {
  types = λ g end k. c.in-Ok.ensures.numbers g end k ∙ ap₂ (λ rs ws. type_if (types_in c.args.state) g rs (slice_get ws k)) c.deref.ensures.value c.deref-2.ensures.value;
  exn = c.in-Ok.ensures.exn;
  initial = refl;
  constructors = rows-at-stay c.args.state.tables.types c.enter_types.new.types c.args.state.tables.constructors c.in-Ok.ensures.earlier_stay c.args.state.rows;
  parameters = refl;
  strings = refl;
}
