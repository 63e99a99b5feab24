use Rattle.std.proofs.Common.{List, take}
use Rattle.std.specs.List.{AllByRecursion}
use Rattle.mono_bound.specs.Reads.{mono_of}
use Rattle.closure_bodies.specs.of_closure_whole.Constants.{AreHeld}
use Rattle.closure_bodies.specs.of_closure_parts.Settings.{Row, Texts}
use Rattle.closure_bodies.specs.of_closure_steps.Reads.{mono_step, mono_arm, mono_function}
use Rattle.closure_first.specs.Held.{HasEmpty, StepHeld, ArmHeld, MemberHeld}
use Rattle.closure_first.proofs.held.+held.Given as goal

abbrev pub invariant-all_are_held-loop-i : goal.invariant-all_are_held-loop-i
invariant-all_are_held-loop-i l = (types : List Row) (strings : Texts) → HasEmpty strings → AllByRecursion (λ e. AreHeld strings (mono_of types strings e)) (take l.i l.attempts)

abbrev pub invariant-arms_are_held-loop-i : goal.invariant-arms_are_held-loop-i
invariant-arms_are_held-loop-i l = (types : List Row) (strings : Texts) → HasEmpty strings → AllByRecursion (λ a. ArmHeld strings (mono_arm types strings a)) (take l.i l.arms)

abbrev pub invariant-functions_are_held-loop-i : goal.invariant-functions_are_held-loop-i
invariant-functions_are_held-loop-i l =
    (types : List Row) (strings : Texts) → HasEmpty strings → AllByRecursion (λ f. MemberHeld strings (mono_function types strings f)) (take l.i l.functions)

abbrev pub invariant-steps_are_held-loop-i : goal.invariant-steps_are_held-loop-i
invariant-steps_are_held-loop-i l = (types : List Row) (strings : Texts) → HasEmpty strings → AllByRecursion (λ s. StepHeld strings (mono_step types strings s)) (take l.i l.steps)
