use Rattle.std.proofs.Common.{map, refl, sym, subst}
use Rattle.sml_tree.specs.TreeOf.{dec_of, decs_of}
use Rattle.core_rules.specs.Initial.{prelude_env}
use Rattle.name_scopes.specs.Covering.{Covers}
use Rattle.name_scopes.proofs.Enough.{in-run}
use Rattle.name_scopes.proofs.Initially.{prelude-covers}
use Rattle.scope_walks.proofs.Walking.{standard-covers}
use Rattle.scope_walks.proofs.project.standard_scope.Goals as goal

pub returns-clause-covers : goal.returns-clause-covers
returns-clause-covers c =
    standard-covers (decs_of (map dec_of c.args.prelude.now)) c.in_ok-scope.scope c.with_prim.new.scope _ _ _ c.len-from.result c.len-to.result c.in_ok-scope.ensures.covers c.in_ok-with_prim.ensures.bound
    (prelude-covers c.in_ok-scope.scope c.in_ok-scope.ensures.covers) (c.in_ok-in_decs.ensures.brought c.if-branch.false) c.len-from.ensures c.len-to.ensures c.in_ok-leave_between.ensures

pub returns-then-branch-clause-none : goal.returns-then-branch-clause-none
returns-then-branch-clause-none c e =
    in-run _ prelude_env (decs_of (map dec_of c.args.prelude.now)) refl
    (c.in_ok-in_decs.ensures.right c.if-branch.true prelude_env
    (subst (λ s. Covers s prelude_env) (sym c.in_ok-with_prim.ensures.bound) (prelude-covers c.in_ok-scope.scope c.in_ok-scope.ensures.covers)))
