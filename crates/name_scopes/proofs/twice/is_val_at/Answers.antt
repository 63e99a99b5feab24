use Rattle.std.proofs.Common.{map}
use Rattle.sml_tree.specs.TreeOf.{bind_of, binds_of}
use Rattle.name_scopes.specs.Twice.{binding_places}
use Rattle.name_scopes.specs.declared.sought.What.TheVariants as whats
use Rattle.name_scopes.proofs.TwiceNodes.{asks-left, asks-rest, asks-right}
use Rattle.name_scopes.proofs.twice.is_val_at.Goals as goal

pub returns-then-is_binding_at : goal.returns-then-is_binding_at
returns-then-is_binding_at c u =
    let ps = binding_places (binds_of (map bind_of c.args.binds.now)) in
    let qs = binding_places (binds_of (map bind_of c.args.recs.now)) in
    asks-rest c.args.sought.now whats.Twice c.args.place _ (asks-left c.args.sought.now whats.Twice ps qs (c.is_binding_at.ensures c.if-is_binding_at.true))

pub returns : goal.returns
returns c u =
    let ps = binding_places (binds_of (map bind_of c.args.binds.now)) in
    let qs = binding_places (binds_of (map bind_of c.args.recs.now)) in
    asks-rest c.args.sought.now whats.Twice c.args.place _ (asks-right c.args.sought.now whats.Twice ps qs (c.is_binding_at-2.ensures u))
