use Rattle.std.proofs.Common.{map}
use Rattle.sml_tree.specs.BareTree.{no_binds}
use Rattle.sml_tree.specs.Derived.{function_binds}
use Rattle.sml_tree.specs.TreeOf.{function_of}
use Rattle.name_scopes.proofs.Pushing.{if-ok}
use Rattle.name_scopes.proofs.TwiceNodes.{val-twice}
use Rattle.name_scopes.proofs.twice.is_fun_twice.Goals as goal

pub returns-then-is_fun_at : goal.returns-then-is_fun_at
returns-then-is_fun_at c =
    if-ok c.are_functions_broken.result
    (λ b h t e q as_. val-twice c.args.sought.now e c.args.place q as_ no_binds (function_binds (map function_of c.args.functions.now)) (c.is_fun_at.ensures c.if-is_fun_at.true) (h t))
    c.are_functions_broken.ensures
