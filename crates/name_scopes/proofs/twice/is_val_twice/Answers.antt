use Rattle.std.proofs.Common.{map}
use Rattle.sml_tree.specs.TreeOf.{bind_of, binds_of}
use Rattle.name_scopes.proofs.Pushing.{if-ok}
use Rattle.name_scopes.proofs.TwiceNodes.{val-twice}
use Rattle.name_scopes.proofs.twice.is_val_twice.Goals as goal

pub returns-then-is_val_at : goal.returns-then-is_val_at
returns-then-is_val_at c =
    if-ok c.are_binds_broken.result
    (λ b h t e k q as_. val-twice c.args.sought.now e c.args.place q as_ (binds_of (map bind_of c.args.binds.now)) (binds_of (map bind_of c.args.recs.now))
    (c.is_val_at.ensures c.if-is_val_at.true) (h t e k))
    c.are_binds_broken.ensures
