use Rattle.std.proofs.Common.{ap₂, ap, ◌∙◌}
use Rattle.ir_plain.specs.Tree.{make_record}
use Rattle.plain_tree.specs.TreeOf.{row_of}
use Rattle.match_compile.specs.Compile.{spots_row}
use Rattle.pattern_tests.specs.of_match_types.Views.{reading}
use Rattle.general_bindings.specs.General.{over_scope, whole, spots_of}
use Rattle.general_bindings.proofs.Rows.{fields-read}
use Rattle.general_bindings.proofs.records.push_together.Goals as goal

pub returns-clause-puts : goal.returns-clause-puts
returns-clause-puts c = λ stands.
    let ss = c.args.spots.now in
    c.in_ok-n.ensures.puts (over_scope (whole ss)) (λ v. make_record (over_scope (whole ss) v) (spots_row (spots_of v ss) 1)) stands
    (λ v s. ap₂ (λ k l. make_record k (row_of (reading v) l)) (stands v s) c.in_ok-fields.ensures ∙ ap (make_record (over_scope (whole ss) v)) (fields-read v ss 1))
