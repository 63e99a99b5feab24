use Rattle.std.proofs.Common.{◌∙◌}
use Rattle.general_bindings.proofs.of_exp_blocks.Growing.{grows-on, grows-by}
use Rattle.match_pass.proofs.Bodies.{body-gives}
use Rattle.match_pass.proofs.compile.push_body.Goals as goal

pub returns-clause-grows : goal.returns-clause-grows
returns-clause-grows c = grows-on _ _ _ c.in_ok-push_decs.ensures.grows (grows-on _ _ _ (grows-by _ _ c.in_ok-value.ensures.keeps) (grows-by _ _ c.in_ok-other.ensures.keeps))

pub returns-clause-scope : goal.returns-clause-scope
returns-clause-scope c = c.in_ok-other.ensures.keeps.scope ∙ c.in_ok-value.ensures.keeps.scope ∙ c.in_ok-push_decs.ensures.scope

pub returns-clause-gives : goal.returns-clause-gives
returns-clause-gives c =
    let o = c.in_ok-other.ensures in
    body-gives c.args.decs.now c.in_ok-body.body c.new-steps.ensures.items c.in_ok-push_decs.ensures c.in_ok-value.ensures c.in_ok-body.ensures o.keeps o.gives c.in_ok-made.ensures
