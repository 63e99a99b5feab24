use Rattle.ty_table.specs.TypeAt.{type_at}
use Rattle.ty_solve.specs.SlotsOf.{seen, entries, tasks_of}
use Rattle.ty_solve.specs.Compared.{Settled, Remembers}
use Rattle.ty_solve.proofs.Comparing.{remembers-dropped, remembers-opened, compared-holds}
use Rattle.std.proofs.Common.{length, None, refl, sym, subst}
use Rattle.ty_solve.proofs.Sigma.{solves-fits}
use Rattle.ty_solve.proofs.StepArms.{steps-compared, parts-steps}
use Rattle.ty_solve.proofs.step.compare.Goals as goal

pub returns-then-not-new : goal.returns-then-not-new
returns-then-not-new c =
    let t = c.in_ok-new.ensures.old c.if-not-new.true in
    record {
      steps = steps-compared (length (entries c.args.s.now.types c.args.s.now.slots.items)) (seen c.args.s.now.types c.args.s.now.slots.items) c.args.s.now.acyclic.0 (tasks_of c.args.s.now.types c.args.tasks.now.items) (type_at c.args.s.now.types c.args.a) (type_at c.args.s.now.types c.args.b) (λ m f k h. compared-holds c.args.s.now.types (seen c.args.s.now.types c.args.s.now.slots.items) c.args.compared.now.keys (tasks_of c.args.s.now.types c.args.tasks.now.items) c.args.a c.args.b t.was c.requires.remembered m f (solves-fits m (seen c.args.s.now.types c.args.s.now.slots.items) f k) h);
      remembers = subst (λ l. Remembers c.args.s.now.types (seen c.args.s.now.types c.args.s.now.slots.items) None l (tasks_of c.args.s.now.types c.args.tasks.now.items)) (sym t.same) (remembers-dropped c.args.s.now.types (seen c.args.s.now.types c.args.s.now.slots.items) None c.args.compared.now.keys (tasks_of c.args.s.now.types c.args.tasks.now.items) (type_at c.args.s.now.types c.args.a) (type_at c.args.s.now.types c.args.b) (λ f i j. Settled.compared c.args.a c.args.b t.was refl refl) c.requires.remembered);
      held = λ a b h. h;
    }

pub returns : goal.returns
returns c =
    let p = c.in_ok-equal_parts.ensures.parts in
    record {
      steps = parts-steps (length (entries c.args.s.now.types c.args.s.now.slots.items)) (seen c.args.s.now.types c.args.s.now.slots.items) c.args.s.now.acyclic.0 _ _ c.requires.same_symbol.0 c.requires.same_symbol.0 _ _ (type_at c.args.s.now.types c.args.a) (type_at c.args.s.now.types c.args.b) c.requires.same_symbol.1 c.requires.same_symbol.2 refl p;
      remembers = remembers-opened c.args.s.now.types (seen c.args.s.now.types c.args.s.now.slots.items) c.args.compared.now.keys _ (tasks_of c.args.s.now.types c.args.tasks.now.items) _ c.args.a c.args.b c.requires.same_symbol.0 c.requires.same_symbol.0 _ _ (c.in_ok-new.ensures.new c.if-not-new.false) c.requires.same_symbol.1 c.requires.same_symbol.2 refl p.stay p.wait c.requires.remembered;
      held = c.in_ok-equal_parts.ensures.held;
    }
