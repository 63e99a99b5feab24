-- What a function of the parser returned, against the answer of the reading function.
use Rattle.std.specs.Prelude.{◌≡◌, Result, Ok, Err}
use Rattle.sml_grammar.specs.Answer.{Read, Answer, ok, bad, deep}
use Rattle.phrase_base.specs.declared.stop.Stop.{Stop}
use Rattle.phrase_base.specs.declared.stop.Stop.TheVariants as stop

-- a failure is the answer's, unless memory ran out
abbrev pub Fails : {A : Type 0} → Stop → Answer A → Type 0
Fails stop.Memory a = Unit {0}
Fails (stop.Bad left) a = a ≡ bad
Fails (stop.Deep left) a = a ≡ deep

-- what was read is what the answer has, by a relation of the two
pub record Gave {X A : Type 0} (Is : X → Read A → Type 0) (x : X) (a : Answer A) : Type 0 where
  pub got : Read A
  pub is : a ≡ ok got
  pub same : Is x got

abbrev pub Gives : {X A : Type 0} → (X → Read A → Type 0) → Result X Stop → Answer A → Type 0
Gives Is (Ok x) a = Gave Is x a
Gives Is (Err e) a = Fails e a
