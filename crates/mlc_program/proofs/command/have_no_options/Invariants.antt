use Rattle.std.proofs.Common.{◌≡◌, drop}
use Rattle.std.specs.List.{list_all}
use Rattle.mlc_program.specs.Command.{is_no_option}
use Rattle.mlc_program.specs.CommandOf.{words_of}
use Rattle.mlc_program.proofs.command.have_no_options.Given as goal

abbrev pub invariant-loop-word : goal.invariant-loop-word
invariant-loop-word l = list_all is_no_option (words_of l.words) ≡ list_all is_no_option (words_of (drop l.word-index l.words))
