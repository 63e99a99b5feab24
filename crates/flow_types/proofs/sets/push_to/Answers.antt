use Rattle.std.proofs.Common.{◌∷◌, [], ◌++◌, Vec, ℕ, ap, ◌∙◌, arith}
use Rattle.std.specs.Global.{Global}
use Rattle.flow_types.proofs.Entered.{pushed-put, pushed-past}
use Rattle.flow_types.proofs.sets.push_to.Goals as goal

pub returns-in_ok-push : goal.returns-in_ok-push
returns-in_ok-push c =
    pushed-put c.args.sets.now.items c.args.number c.args.function c.push.new.self c.index_mut-set.result.now (let h = c.if-number-len.true in let e = c.len.ensures in omega (arith, h, e))
    (c.in_ok-push.ensures.items ∙ ap (λ (v : Vec ℕ Global). v.items ++ c.args.function ∷ []) c.index_mut-set.ensures.value)

pub returns-else-number-len : goal.returns-else-number-len
returns-else-number-len c = pushed-past c.args.sets.now.items c.args.number c.args.function (let h = c.if-number-len.false in let e = c.len.ensures in omega (arith, h, e))
