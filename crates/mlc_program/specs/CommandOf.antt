-- The command line of the code.
use Rattle.std.specs.Prelude.{ℕ, List, String, map}
use Rattle.std.specs.Global.{Global}
use Rattle.std.specs.String.{string_bytes}
use Rattle.mlc_program.specs.Command as spec
use Rattle.mlc_program.specs.declared.command.Command.{Command}

abbrev pub words_of : List (String Global) → List (List ℕ)
words_of = map string_bytes

abbrev pub command_of : Command → spec.Command
command_of c = record {
  input = c.input.now;
  output = c.output.now;
  heap = c.heap;
  stack = c.stack;
  steps = c.steps;
}
