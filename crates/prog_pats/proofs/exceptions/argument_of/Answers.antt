use Rattle.std.proofs.Common.{sym, ap, ◌∙◌}
use Rattle.std.specs.Option.{option_map}
use Rattle.ir_known.specs.Knows.{known_of}
use Rattle.ir_tables.specs.Tables.{parameters_of}
use Rattle.record_order.proofs.of_ir_uses.Knowing.{at-knowns}
use Rattle.prog_check.specs.Deciding.{exc_argument, known_argument}
use Rattle.prog_known.specs.Onto.{known_with}
use Rattle.prog_tree.specs.TreeOf.{exc_of}
use Rattle.prog_pats.proofs.exceptions.argument_of.Goals as goal

pub returns-in-Initial : goal.returns-in-Initial
returns-in-Initial c = λ t. ap (λ x. exc_argument (known_with t c.args.variables.now) (exc_of x)) c.in-Initial.is ∙ c.initial_argument.ensures t

pub returns-in-Held : goal.returns-in-Held
returns-in-Held c = λ t. ap (λ x. exc_argument (known_with t c.args.variables.now) (exc_of x)) c.in-Held.is
    ∙ ap known_argument (at-knowns t.types (parameters_of t) c.args.variables.now c.in-Held.variable ∙ ap (option_map (known_of t.types (parameters_of t))) (sym c.find.ensures))
    ∙ c.exception_argument.ensures t.types (parameters_of t)
