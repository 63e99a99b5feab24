use Rattle.std.proofs.Common.{refl}
use Rattle.elab_steps.proofs.Changing.{begins-same, tabled_grows}
use Rattle.elab_steps.proofs.flexible.note_flexible.Goals as goal

pub returns-clause-grows : goal.returns-clause-grows
returns-clause-grows c = tabled_grows c.args.state.now _ (record {
  stays = record { written = refl; namings = refl; tables = refl; next = refl; level = refl };
  types = begins-same _ _ refl;
  slots = refl;
  limits = refl;
  says = refl;
})
