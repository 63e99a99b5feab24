use Rattle.std.proofs.Common.{ℕ}
use Rattle.ty_solve.specs.Substitution.{Entry}
use Rattle.ty_solve.specs.Forces.{Problem, LeftAt, IsForced}
use Rattle.std.proofs.Common.{◌∙◌, ap}
use Rattle.ty_solve.specs.Solve.{undo}
use Rattle.ty_solve.proofs.Turns.{put-back}
use Rattle.ty_solve.proofs.Solvable.{solvable}
use Rattle.ty_solve.proofs.solve.unify.Goals as goal

pub returns-in-Ok-clause-solvable : goal.returns-in-Ok-clause-solvable
returns-in-Ok-clause-solvable c = solvable _ c.attempt.new.s.acyclic c.attempt.new.s.inhabited

pub invariant_of-s : goal.invariant_of-s
invariant_of-s c =
    let k = put-back c.args.s.now.types c.attempt.new.s.types c.args.s.now.slots.items c.put_back.new.slots.items c.attempt.ensures.types (c.put_back.ensures ∙ c.attempt.ensures.undone ∙ ap (λ d. undo d c.args.s.now.slots.items) c.new-trail.ensures.items) c.args.s.now.held c.args.s.now.below c.args.s.now.acyclic c.args.s.now.inhabited in
    record { held = k.held; below = k.below; acyclic = k.acyclic; inhabited = k.inhabited }

rest : (p : Problem) (s : ℕ → Entry) → IsForced p s → (v : ℕ) → LeftAt p v (s v)
rest p s h v = (h v).1

pub returns-in-Ok-clause-rest : goal.returns-in-Ok-clause-rest
returns-in-Ok-clause-rest c = rest _ _ c.in-Ok.ensures.forced
