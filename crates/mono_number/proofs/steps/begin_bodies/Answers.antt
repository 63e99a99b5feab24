use Rattle.std.proofs.Common.{refl}
use Rattle.mono_number.proofs.Given.{if-ok}
use Rattle.mono_number.proofs.Heads.{begins-moves}
use Rattle.mono_number.proofs.steps.begin_bodies.Goals as goal

pub returns-in-Some : goal.returns-in-Some
returns-in-Some c =
    if-ok _ _ c.enter_bodies.result
    (λ u h known. begins-moves c.args.limit known c.args.functions c.args.walk.now (record { names = c.args.walk.now.names; next = c.in-Some.next; frames = c.args.walk.now.frames; made = c.args.walk.now.made }) c.enter_bodies.new.walk refl c.in-Some.ensures.1 refl refl
    (h known)) c.enter_bodies.ensures
