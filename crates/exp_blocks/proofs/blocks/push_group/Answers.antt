use Rattle.std.proofs.Common.{true, false, refl, sym, ◌∙◌}
use Rattle.exp_steps.proofs.Heads.{no-elements, items-counted}
use Rattle.exp_blocks.proofs.Holding.{group-some, group-none}
use Rattle.exp_blocks.proofs.blocks.push_group.Goals as goal

pub returns-then-is_empty : goal.returns-then-is_empty
returns-then-is_empty c = λ w. group-none w _ c.args.parameters c.args.members.items (no-elements c.args.members.items (items-counted c.args.members true (sym c.is_empty.ensures ∙ c.if-is_empty.true)))

pub returns : goal.returns
returns c = λ w.
    group-some w _ _ c.args.parameters c.args.members c.args.members.items refl (items-counted c.args.members false (sym c.is_empty.ensures ∙ c.if-is_empty.false)) c.in_ok-push.ensures.items
