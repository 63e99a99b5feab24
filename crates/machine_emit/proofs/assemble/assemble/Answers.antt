use Rattle.std.proofs.Common.{◌≡◌, refl, [], ◌++◌, ◌+◌, length, map, ap, sym, ◌∙◌, subst, get_or}
use Rattle.ssa_tree.specs.TreeOf.{fun_of}
use Rattle.first_tables.specs.TablesOf.{set_of}
use Rattle.ssa_form.specs.Programs.{program_of}
use Rattle.machine_code.specs.Image.{fun_place, funs_code, funs_size, sets_code, set_place}
use Rattle.machine_rows.specs.Table.{rows}
use Rattle.image_size.specs.of_image_law.Assembled.{sets_from}
use Rattle.walk_labels.specs.Marks.{Foretold}
use Rattle.emit_code.specs.PlacesOf.{places_of}
use Rattle.emit_walk.proofs.Nodes.{passed}
use Rattle.machine_emit.specs.Labels.{all_labels, funs_labels}
use Rattle.machine_emit.proofs.Whole.{start-long, whole-code}
use Rattle.machine_emit.proofs.assemble.assemble.Goals as goal

pub returns-in_err-funs-clause-told : goal.returns-in_err-funs-clause-told
returns-in_err-funs-clause-told c places =
    let program = c.args.program.now in
    let at = places_of program.tables c.args.at.now in
    let start = c.push_start.new.code.items in
    let from = start-long at c.rows_are_right.ensures (program_of program) start (start ++ funs_code at (length start) (program_of program).funs) []
    (c.in_ok-push_start.ensures places) refl in
    let same : all_labels (program_of program) ≡ funs_labels rows at.types (length start) (map fun_of c.deref.result.now) =
    sym (ap (λ l. funs_labels rows at.types (length start) (map fun_of l)) c.deref.ensures.value ∙ ap (λ n. funs_labels rows at.types n (program_of
    program).funs) from) in
    passed _ c.from_residual-in_err-funs.result c.in_err-funs.field-0.0 c.from_residual-in_err-funs.ensures.1
    (λ told. c.in_err-funs.ensures.told (subst (λ l. Foretold c.args.sure c.args.at.now.labels.items 0 l) same told))

pub returns-clause-code : goal.returns-clause-code
returns-clause-code c = λ s places.
    let program = c.args.program.now in
    let at = places_of program.tables c.args.at.now in
    let start = c.push_start.new.code.items in
    let more = c.push_funs.new.pass.code.items in
    let h1 = c.in_ok-push_start.ensures places in
    let h2 : more ≡ start ++ funs_code at (length start) (program_of program).funs =
    c.in_ok-funs.ensures.code s ∙ ap (λ l. start ++ funs_code at (length start) (map fun_of l)) c.deref.ensures.value in
    whole-code at c.rows_are_right.ensures (program_of program) start more c.push_sets.new.code.items h1 h2
    (c.in_ok-sets.ensures.code
    ∙ ap (λ l. more ++ sets_code (map fun_of l) (λ f. get_or c.deref-2.result.now f c.args.at.now.funs_end) (length more) (map set_of c.deref-4.result.now))
    c.deref-3.ensures.value
    ∙ ap (λ l. more ++ sets_code (program_of program).funs (λ f. get_or l f c.args.at.now.funs_end) (length more) (map set_of c.deref-4.result.now))
    c.deref-2.ensures.value
    ∙ ap (λ l. more ++ sets_code (program_of program).funs at.fun_at (length more) (map set_of l)) c.deref-4.ensures.value)

pub returns-clause-funs : goal.returns-clause-funs
returns-clause-funs c = λ places i.
    let program = c.args.program.now in
    let at = places_of program.tables c.args.at.now in
    let start = c.push_start.new.code.items in
    let from = start-long at c.rows_are_right.ensures (program_of program) start (start ++ funs_code at (length start) (program_of program).funs) []
    (c.in_ok-push_start.ensures places) refl in
    c.in_ok-funs.ensures.places i ∙ ap (λ l. fun_place rows at.types (length start) (map fun_of l) i) c.deref.ensures.value
    ∙ ap (λ n. fun_place rows at.types n (program_of program).funs i) from

pub returns-clause-sets : goal.returns-clause-sets
returns-clause-sets c = λ places i.
    let program = c.args.program.now in
    let at = places_of program.tables c.args.at.now in
    let start = c.push_start.new.code.items in
    let more = c.push_funs.new.pass.code.items in
    let from = start-long at c.rows_are_right.ensures (program_of program) start (start ++ funs_code at (length start) (program_of program).funs) []
    (c.in_ok-push_start.ensures places) refl in
    let far : length more ≡ sets_from at (program_of program) =
    c.in_ok-funs.ensures.long ∙ ap (λ l. length start + funs_size rows at.types (map fun_of l)) c.deref.ensures.value
    ∙ ap (λ n. n + funs_size rows at.types (program_of program).funs) from in
    c.in_ok-sets.ensures.places i
    ∙ ap (λ l. set_place (map fun_of l) (λ f. get_or c.deref-2.result.now f c.args.at.now.funs_end) (length more) (map set_of c.deref-4.result.now) i)
    c.deref-3.ensures.value
    ∙ ap (λ l. set_place (program_of program).funs (λ f. get_or l f c.args.at.now.funs_end) (length more) (map set_of c.deref-4.result.now) i)
    c.deref-2.ensures.value
    ∙ ap (λ l. set_place (program_of program).funs at.fun_at (length more) (map set_of l) i) c.deref-4.ensures.value
    ∙ ap (λ n. set_place (program_of program).funs at.fun_at n (program_of program).tables.sets i) far

pub returns-clause-labels : goal.returns-clause-labels
returns-clause-labels c = λ places.
    let program = c.args.program.now in
    let at = places_of program.tables c.args.at.now in
    let start = c.push_start.new.code.items in
    let from = start-long at c.rows_are_right.ensures (program_of program) start (start ++ funs_code at (length start) (program_of program).funs) []
    (c.in_ok-push_start.ensures places) refl in
    c.in_ok-funs.ensures.labels ∙ ap (λ l. funs_labels rows at.types (length start) (map fun_of l)) c.deref.ensures.value
    ∙ ap (λ n. funs_labels rows at.types n (program_of program).funs) from
