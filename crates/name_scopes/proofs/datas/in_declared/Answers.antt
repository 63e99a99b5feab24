use Rattle.std.proofs.Common.{refl, subst, ◌∙◌}
use Rattle.core_rules.specs.Eval.{datatypes_env}
use Rattle.core_rules.specs.Unbound.{tycons_names}
use Rattle.core_rules.specs.Values.{Env, plus}
use Rattle.name_scopes.specs.Parts.{expanded}
use Rattle.name_scopes.specs.Placed.{Brought}
use Rattle.name_scopes.proofs.Declaring.{brought-covers, declared-brought, declared-found, left-again}
use Rattle.name_scopes.proofs.datas.in_declared.Goals as goal

pub returns-then-in_datas : goal.returns-then-in_datas
returns-then-in_datas c bs n =
    let names = λ (e : Env). tycons_names (expanded bs c.args.datas.now) in
    declared-found _ _ _ _
    (λ e h. c.if-in_datas.ensures refl bs (plus e (names e)) n (brought-covers c.args.scope.now c.bind_names.new.scope names (c.in_ok-bind_names.ensures bs) e h))

pub returns : goal.returns
returns c bs n =
    let names = λ (e : Env). tycons_names (expanded bs c.args.datas.now) in
    let left = c.leave.ensures ∙ left-again c.args.scope.now c.bind_names.new.scope names c.len-before.result (c.in_ok-bind_names.ensures bs) c.len-before.ensures in
    declared-brought _ _ _ _ (subst (λ l. Brought l c.bind_datas.new.scope (λ e. datatypes_env (expanded bs c.args.datas.now))) left (c.in_ok-bind_datas.ensures bs))
