use Rattle.std.proofs.Common.{subst, sym}
use Rattle.sml_tree.specs.Derived.{short}
use Rattle.name_scopes.specs.Parts.{joint_unbound}
use Rattle.name_scopes.specs.Placed.{At}
use Rattle.scope_walks.proofs.Nodes.{own-value}
use Rattle.scope_walks.proofs.exps.in_joint.Goals as goal

pub returns-then-is_at : goal.returns-then-is_at
returns-then-is_at c h e k = subst (λ j. At c.args.sought.now (joint_unbound e j)) (sym c.in-Infix.is) (own-value c.args.sought.now e c.in-Infix.at (short c.in-Infix.vid) (c.is_at.ensures c.if-is_at.true) (c.is_unbound_vid.ensures h e k))
