use Rattle.std.proofs.Common.{◌≡◌, ◌<◌, ◌^◌, drop}
use Rattle.std.specs.Str.Parse.{digits_value, digits_value_after}
use Rattle.sml_lexer.proofs.numbers.digits_value.Given as goal

abbrev pub invariant-loop-c : goal.invariant-loop-c
invariant-loop-c l = (l.value < 2 ^ 32) × (digits_value_after l.base l.value (drop l.c-index l.digits) ≡ digits_value l.base l.digits)
