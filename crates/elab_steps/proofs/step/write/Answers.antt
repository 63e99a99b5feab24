use Rattle.std.proofs.Common.{length, refl, arith}
use Rattle.elab_steps.proofs.Changing.{wrote_is, written_pushed}
use Rattle.elab_steps.proofs.step.write.Goals as goal

pub invariant_of-state : goal.invariant_of-state
invariant_of-state c =
    let s = c.args.state.now in
    record {
      held = written_pushed (length s.solver.subst.types) (length s.namings.items) _ s.written.items c.push.new.self.items (record { ty = c.args.ty; naming = c.args.naming }) c.push.ensures.items s.held c.requires.held c.requires.among;
      ordered = s.ordered;
      rows = s.rows;
    }

pub returns-clause-is : goal.returns-clause-is
returns-clause-is c = wrote_is c.args.state.now _ (record { ty = c.args.ty; naming = c.args.naming }) c.len-number.result (record {
  solver = refl;
  written = c.in_ok-push.ensures.items;
  namings = refl;
  tables = refl;
  next = refl;
  level = refl;
}) (omega (arith, c.len-number.ensures, c.args.state.now.written.ok.0))
