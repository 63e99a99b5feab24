use Rattle.std.proofs.Common.{◌<◌, length, sym, subst, arith}
use Rattle.ty_table.specs.Nodes.{Table, types_of}
use Rattle.ty_table.proofs.Keeping.{in-keys, key-reads, nodes_in}
use Rattle.ty_table.proofs.table.Table.node.Goals as goal

pub bounds-kept-k : goal.bounds-kept-k
bounds-kept-k c = in-keys _ c.self.inside.nodes.keys c.as_slice-kept.result.now c.args.k c.as_slice-kept.ensures.keys (subst (λ (t : Table). c.args.k < length (types_of t)) (sym c.self.view_is) c.requires)

pub offset_bounds-kept-k : goal.offset_bounds-kept-k
offset_bounds-kept-k c = let lt = in-keys _ c.self.inside.nodes.keys c.as_slice-kept.result.now c.args.k c.as_slice-kept.ensures.keys (subst (λ (t : Table). c.args.k < length (types_of t)) (sym c.self.view_is) c.requires) in omega arith

pub returns : goal.returns
returns c =
    let lt = in-keys _ c.self.inside.nodes.keys c.as_slice-kept.result.now c.args.k c.as_slice-kept.ensures.keys (subst (λ (t : Table). c.args.k < length (types_of t)) (sym c.self.view_is) c.requires) in
    let r = key-reads _ (nodes_in c.self.inside.codes.keys) c.self.inside.facts.items c.self.inside.nodes.keys c.as_slice-kept.result.now c.args.k c.index-kept-k.result c.as_slice.result.now c.self.invariant c.as_slice-kept.ensures.keys lt c.index-kept-k.is c.as_slice.ensures.value in
    rw (← c.self.view_is) (record { is_node = r.is_node; is = r.is })
