use Rattle.std.proofs.Common.{sym, ap, map, ◌∙◌}
use Rattle.ty_core.specs.Types.{var}
use Rattle.ir_tables.specs.Tables.{parameters_at}
use Rattle.match_compile.specs.Compile.{own_types}
use Rattle.pattern_tests.proofs.of_match_types.Seeing.{sees-before}
use Rattle.general_bindings.proofs.Rows.{own-is}
use Rattle.general_bindings.proofs.records.own_types.Goals as goal

pub returns-clause-is : goal.returns-clause-is
returns-clause-is c = λ v s.
    c.in_ok-types.ensures.is v s ∙ ap (map var) (c.deref.ensures.value) ∙ ap (map var) c.in_ok-named.ensures ∙ own-is _
    ∙ ap own_types (c.parameters.ensures ∙ ap (λ ps. parameters_at ps c.args.parameters) (sym (sees-before _ _ v c.in_ok-types.ensures.keeps s).are_parameters))
