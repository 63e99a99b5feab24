use Rattle.std.proofs.Common.{map}
use Rattle.std.proofs.lemmas.Result.{IfOk-weaker}
use Rattle.sml_tree.specs.TreeOf.{type_bind_of}
use Rattle.core_rules.specs.Eval.{datatypes_env, types_env}
use Rattle.core_rules.specs.Unbound.{all_in}
use Rattle.name_scopes.specs.Nodes.{type_phrase}
use Rattle.name_scopes.specs.Parts.{datatype_scopes, expanded, withtype_scopes}
use Rattle.name_scopes.specs.Placed.{AnyAt}
use Rattle.name_scopes.proofs.Declaring.{declared-before, declared-then}
use Rattle.name_scopes.proofs.Placing.{any-left, any-right}
use Rattle.name_scopes.proofs.datas.in_withtype.Goals as goal

pub returns-then-branch : goal.returns-then-branch
returns-then-branch c =
    let bs = map type_bind_of c.args.types.now in
    declared-before c.in_ok-in_declared.field-0 _ _ (λ e. AnyAt c.args.sought.now (datatype_scopes bs e c.args.datas.now)) _ (λ e. datatypes_env (expanded bs c.args.datas.now)) _
    (c.in_ok-in_declared.ensures bs c.in_ok-names.ensures) c.if-branch.true (λ e h. any-left c.args.sought.now (datatype_scopes bs e c.args.datas.now) _ h)

pub returns : goal.returns
returns c =
    let bs = map type_bind_of c.args.types.now in
    let first = (c.in_ok-in_declared.ensures bs c.in_ok-names.ensures).brought c.if-branch.false in
    IfOk-weaker c.in_type_dec.result _ _
    (λ found k.
    declared-then found _ _ _ (λ e. AnyAt c.args.sought.now (all_in e (map type_phrase c.args.types.now))) (λ e. AnyAt c.args.sought.now (withtype_scopes e c.args.datas.now c.args.types.now))
    (λ e. datatypes_env (expanded bs c.args.datas.now)) (λ e. types_env bs) first k (λ e h. any-right c.args.sought.now (datatype_scopes bs e c.args.datas.now) _ h))
    c.in_type_dec.ensures
