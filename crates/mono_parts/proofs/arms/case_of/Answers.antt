use Rattle.std.proofs.Common.{◌∷◌, [], ap, ◌∙◌}
use Rattle.plain_tree.specs.declared.tree.Case.TheVariants as case
use Rattle.monomorphise.specs.Monomorphise.{copy_of}
use Rattle.mono_close.specs.Closing.{standing}
use Rattle.mono_state.specs.of_mono_words.Seen.{with_needs}
use Rattle.mono_state.specs.Seen.{seen}
use Rattle.mono_state.proofs.Growing.{sooner}
use Rattle.mono_state.proofs.Going.{goes-then}
use Rattle.mono_parts.proofs.Putting.{case-noted, exception-of-is}
use Rattle.mono_parts.proofs.arms.case_of.Goals as goal

pub returns-in_ok-argument-in-ConstructorOf-clause-noted : goal.returns-in_ok-argument-in-ConstructorOf-clause-noted
returns-in_ok-argument-in-ConstructorOf-clause-noted c = λ ss H l.
    case-noted c.args.tables.now c.args.case (case.ConstructorOf c.in-ConstructorOf.constructor c.in-ConstructorOf.argument) (seen ss H c.args.copier.now) (seen ss H c.parameter_of.new.copier) c.in-ConstructorOf.is
    (c.in_ok-argument-in-ConstructorOf.ensures.stays ss H)

pub returns-in_ok-exception-in-Exception-clause-goes : goal.returns-in_ok-exception-in-Exception-clause-goes
returns-in_ok-exception-in-Exception-clause-goes c = c.in_ok-exception-in-Exception.ensures.goes c.args.tables.now.types

pub returns-in_ok-exception-in-Exception-clause-noted : goal.returns-in_ok-exception-in-Exception-clause-noted
returns-in_ok-exception-in-Exception-clause-noted c = λ ss H l.
    case-noted c.args.tables.now c.args.case (case.Exception c.in-Exception.variable) (seen ss H c.args.copier.now) (seen ss H c.atom.new.copier) c.in-Exception.is (c.in_ok-exception-in-Exception.ensures.noted ss H l)

pub returns-in_ok-exception-in-ExceptionOf-clause-goes : goal.returns-in_ok-exception-in-ExceptionOf-clause-goes
returns-in_ok-exception-in-ExceptionOf-clause-goes c =
    let t = c.args.tables.now.types in
    goes-then t c.args.copier.now c.parameter_of-in-ExceptionOf.new.copier c.atom-in-ExceptionOf.new.copier c.in_ok-argument-in-ExceptionOf.ensures.goes (c.in_ok-exception-in-ExceptionOf.ensures.goes t)

pub returns-in_ok-exception-in-ExceptionOf-clause-noted : goal.returns-in_ok-exception-in-ExceptionOf-clause-noted
returns-in_ok-exception-in-ExceptionOf-clause-noted c = λ ss H l.
    case-noted c.args.tables.now c.args.case (case.ExceptionOf c.in-ExceptionOf.exception c.in-ExceptionOf.argument) (seen ss H c.args.copier.now) (seen ss H c.atom-in-ExceptionOf.new.copier) c.in-ExceptionOf.is
    (c.in_ok-exception-in-ExceptionOf.ensures.noted ss H l ∙ ap (with_needs (copy_of c.in-ExceptionOf.exception [] ∷ [])) (c.in_ok-argument-in-ExceptionOf.ensures.stays ss H))

pub returns-in_ok-exception-in-ExceptionOf-clause-is : goal.returns-in_ok-exception-in-ExceptionOf-clause-is
returns-in_ok-exception-in-ExceptionOf-clause-is c = λ H l.
    exception-of-is H (standing H.types c.args.copier.now.slots) c.args.tables.now c.args.case c.in-ExceptionOf.exception c.in-ExceptionOf.argument c.in_ok-argument-in-ExceptionOf.argument c.in_ok-exception-in-ExceptionOf.exception
    c.in-ExceptionOf.is (c.in_ok-exception-in-ExceptionOf.ensures.is H l)
    (c.in_ok-argument-in-ExceptionOf.ensures.is H (sooner (c.in_ok-exception-in-ExceptionOf.ensures.goes []).longer l))
