use Rattle.std.proofs.Common.{sym, subst}
use Rattle.ir_mono.specs.Types.{IsExn}
use Rattle.ir_poly.specs.WellFormed.{table_of}
use Rattle.ir_tables.specs.Tables.{strings_of}
use Rattle.ir_tests.specs.Programs as source
use Rattle.monomorphise.specs.Counting.{greatest_expansion}
use Rattle.monomorphise.specs.Monomorphise.{copies}
use Rattle.mono_copy.proofs.Changing.{passed}
use Rattle.mono_pass.specs.Made.{IsWalked}
use Rattle.mono_form.specs.Parts.{HasParts}
use Rattle.mono_pass.proofs.Parts.{types-have-parts}
use Rattle.mono_pass.proofs.Made.{heavy, same-program, program-made}
use Rattle.mono_pass.proofs.Passed.{exn-there, kept-formed, kept-meaning, kept-right, kept-exceptions, size-is, none-made, past-limit}
use Rattle.mono_pass.proofs.pass.monomorphise_program.Goals as goal

pub returns-in_err-copier-clause-refused : goal.returns-in_err-copier-clause-refused
returns-in_err-copier-clause-refused c =
    let p = source.tests_of c.args.program in
    passed c.from_residual.result c.in_err-copier.field-0.0 c.from_residual.ensures.1 _ _ (λ lt. none-made p (heavy greatest_expansion (table_of p) (copies p.body) lt)) c.in_err-copier.ensures.too_large

pub returns-in_err-copier-clause-too_large : goal.returns-in_err-copier-clause-too_large
returns-in_err-copier-clause-too_large c =
    let p = source.tests_of c.args.program in
    passed c.from_residual.result c.in_err-copier.field-0.0 c.from_residual.ensures.1 _ _ (λ lt. past-limit p (heavy greatest_expansion (table_of p) (copies p.body) lt)) c.in_err-copier.ensures.too_large

pub returns-in_err-made-clause-refused : goal.returns-in_err-made-clause-refused
returns-in_err-made-clause-refused c =
    let p = source.tests_of c.args.program in
    let ss = strings_of c.args.program.tables in
    let W : IsWalked ss (copies p.body) c.in_ok-copier.copier = record { words = c.in_ok-copier.ensures.words; compared = c.in_ok-copier.ensures.compared; nodes = c.in_ok-copier.ensures.nodes } in
    passed c.from_residual-in_err-made.result c.in_err-made.field-0.0 c.from_residual-in_err-made.ensures.1 _ _ (λ past. none-made p (past ss (copies p.body) W)) c.in_err-made.ensures.too_large

pub returns-in_err-made-clause-too_large : goal.returns-in_err-made-clause-too_large
returns-in_err-made-clause-too_large c =
    let p = source.tests_of c.args.program in
    let ss = strings_of c.args.program.tables in
    let W : IsWalked ss (copies p.body) c.in_ok-copier.copier = record { words = c.in_ok-copier.ensures.words; compared = c.in_ok-copier.ensures.compared; nodes = c.in_ok-copier.ensures.nodes } in
    passed c.from_residual-in_err-made.result c.in_err-made.field-0.0 c.from_residual-in_err-made.ensures.1 _ _ (λ past. past-limit p (past ss (copies p.body) W)) c.in_err-made.ensures.too_large

pub returns-clause-made : goal.returns-clause-made
returns-clause-made c =
    let p = source.tests_of c.args.program in
    let ss = strings_of c.args.program.tables in
    let W : IsWalked ss (copies p.body) c.in_ok-copier.copier = record { words = c.in_ok-copier.ensures.words; compared = c.in_ok-copier.ensures.compared; nodes = c.in_ok-copier.ensures.nodes } in
    program-made p ss c.in_ok-made.made (c.in_ok-made.ensures.made ss (copies p.body) W)

pub returns-clause-well_formed : goal.returns-clause-well_formed
returns-clause-well_formed c = λ w.
    let p = source.tests_of c.args.program in
    let ss = strings_of c.args.program.tables in
    let W : IsWalked ss (copies p.body) c.in_ok-copier.copier = record { words = c.in_ok-copier.ensures.words; compared = c.in_ok-copier.ensures.compared; nodes = c.in_ok-copier.ensures.nodes } in
    let M = c.in_ok-made.ensures.made ss (copies p.body) W in
    record {
      program = kept-formed p _ c.in_ok-made.made.expansion (same-program p ss c.in_ok-made.made M) c.monomorphise_keeps.ensures.well_formed w.tests;
      initial = w.initial;
      exn = subst (λ t. IsExn t 2) (sym M.types) (exn-there p w.tests);
      parts = subst HasParts (sym M.types) (types-have-parts (table_of p) (copies p.body));
    }

pub returns-clause-same : goal.returns-clause-same
returns-clause-same c = λ w.
    let p = source.tests_of c.args.program in
    let ss = strings_of c.args.program.tables in
    let W : IsWalked ss (copies p.body) c.in_ok-copier.copier = record { words = c.in_ok-copier.ensures.words; compared = c.in_ok-copier.ensures.compared; nodes = c.in_ok-copier.ensures.nodes } in
    kept-meaning p _ c.in_ok-made.made.expansion (same-program p ss c.in_ok-made.made (c.in_ok-made.ensures.made ss (copies p.body) W)) c.monomorphise_keeps.ensures.same w.tests

pub returns-clause-never_wrong : goal.returns-clause-never_wrong
returns-clause-never_wrong c = λ w.
    let p = source.tests_of c.args.program in
    let ss = strings_of c.args.program.tables in
    let W : IsWalked ss (copies p.body) c.in_ok-copier.copier = record { words = c.in_ok-copier.ensures.words; compared = c.in_ok-copier.ensures.compared; nodes = c.in_ok-copier.ensures.nodes } in
    kept-right p _ c.in_ok-made.made.expansion (same-program p ss c.in_ok-made.made (c.in_ok-made.ensures.made ss (copies p.body) W)) c.monomorphise_keeps.ensures.never_wrong w.tests

pub returns-clause-exceptions : goal.returns-clause-exceptions
returns-clause-exceptions c =
    let p = source.tests_of c.args.program in
    let ss = strings_of c.args.program.tables in
    let W : IsWalked ss (copies p.body) c.in_ok-copier.copier = record { words = c.in_ok-copier.ensures.words; compared = c.in_ok-copier.ensures.compared; nodes = c.in_ok-copier.ensures.nodes } in
    kept-exceptions p _ c.in_ok-made.made.expansion (same-program p ss c.in_ok-made.made (c.in_ok-made.ensures.made ss (copies p.body) W)) c.copies_make_no_more.ensures

pub returns-clause-size : goal.returns-clause-size
returns-clause-size c =
    let p = source.tests_of c.args.program in
    let ss = strings_of c.args.program.tables in
    let W : IsWalked ss (copies p.body) c.in_ok-copier.copier = record { words = c.in_ok-copier.ensures.words; compared = c.in_ok-copier.ensures.compared; nodes = c.in_ok-copier.ensures.nodes } in
    size-is p c.in_ok-made.made.expansion (c.in_ok-made.ensures.made ss (copies p.body) W).expansion
