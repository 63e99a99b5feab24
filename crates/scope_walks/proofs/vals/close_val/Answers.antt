use Rattle.std.proofs.Common.{◌++◌, map, reverse, ap, ◌∙◌}
use Rattle.sml_tree.specs.TreeOf.{bind_of, binds_of}
use Rattle.name_scopes.specs.Entries.{variable_entries}
use Rattle.scope_walks.proofs.Walking.{closed-if}
use Rattle.scope_walks.proofs.vals.close_val.Goals as goal

pub returns : goal.returns
returns c =
    closed-if c.bind_recs.result c.args.scope.now c.leave.new.self c.bind_vids.new.scope _ c.args.opened.now.vids.items c.args.opened.now.before (binds_of (map bind_of c.args.recs.now)) c.leave.ensures
    (c.in_ok-bind_vids.ensures ∙ ap (λ l. variable_entries (reverse l) ++ c.leave.new.self) c.deref.ensures.value) c.bind_recs.ensures
