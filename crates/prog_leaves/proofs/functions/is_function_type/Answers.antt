use Rattle.std.proofs.Common.{sym, ap, ◌∙◌}
use Rattle.ty_table.specs.TypeAt.{type_at}
use Rattle.ir_poly.specs.Prog.{type_of}
use Rattle.ir_poly.specs.Types.{function_type}
use Rattle.prog_check.specs.Same.{same_type}
use Rattle.prog_tree.specs.Readings.{reading}
use Rattle.prog_tree.specs.TreeOf.{tree_of}
use Rattle.prog_leaves.specs.Functions.{functions, curried_is}
use Rattle.prog_leaves.specs.Right.{is_function_type}
use Rattle.prog_leaves.proofs.Typing.{named-type, by-rules-type}
use Rattle.prog_leaves.proofs.functions.is_function_type.Goals as goal

pub returns-in-Named : goal.returns-in-Named
returns-in-Named c =
    let T = c.args.tables.now in
    c.is_curried.ensures ∙ ap (λ l. curried_is T.types l c.in-Named.last.ty c.type_of.result c.args.ty) c.deref.ensures.value
    ∙ ap (λ u. same_type (type_at T.types c.args.ty) (functions T.types c.in-Named.parameters.items (function_type (type_at T.types c.in-Named.last.ty) u)))
    (c.type_of.ensures (reading T) ∙ ap (λ e. type_of (tree_of (reading T) e)) c.deref-in-Named.ensures)
    ∙ named-type T c.in-Named.parameters c.in-Named.last c.in-Named.body c.args.ty ∙ ap (λ f. is_function_type T f c.args.ty) (sym c.in-Named.is)

pub returns-in-ByRules : goal.returns-in-ByRules
returns-in-ByRules c =
    let T = c.args.tables.now in
    c.is_curried-in-ByRules.ensures ∙ ap (λ l. curried_is T.types l c.in-ByRules.argument c.in-ByRules.given c.args.ty) c.deref-in-ByRules.ensures.value
    ∙ by-rules-type T c.in-ByRules.parameters c.in-ByRules.field-1 c.in-ByRules.argument c.in-ByRules.given c.in-ByRules.field-4 c.args.ty ∙ ap (λ f. is_function_type T f c.args.ty) (sym c.in-ByRules.is)
