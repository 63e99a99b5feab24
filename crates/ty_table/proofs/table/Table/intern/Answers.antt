use Rattle.std.proofs.Common.{sym, map}
use Rattle.ty_core.specs.TypesOf.{head_of}
use Rattle.ty_table.proofs.Keeping.{nodes_in, key-found, new-keys, kept-new}
use Rattle.ty_table.proofs.table.Table.intern.Goals as goal

pub returns-in-Some-clause-held : goal.returns-in-Some-clause-held
returns-in-Some-clause-held c = rw (← c.self.view_is, ← c.as_slice.ensures.value) (key-found (map head_of c.self.inside.heads.items) (nodes_in c.self.inside.codes.keys) c.self.inside.facts.items c.self.inside.nodes.keys c.in-Some.found c.as_slice.result.now c.self.invariant c.in-Some.ensures.index).held

pub returns-in-Some-clause-kept : goal.returns-in-Some-clause-kept
returns-in-Some-clause-kept c = rw (← c.self.view_is, ← c.as_slice.ensures.value) (key-found (map head_of c.self.inside.heads.items) (nodes_in c.self.inside.codes.keys) c.self.inside.facts.items c.self.inside.nodes.keys c.in-Some.found c.as_slice.result.now c.self.invariant c.in-Some.ensures.index).kept

pub invariant_of-self-in-Ok : goal.invariant_of-self-in-Ok
invariant_of-self-in-Ok c = (kept-new (map head_of c.self.inside.heads.items) c.self.inside.nodes.keys c.insert_full.new.self.keys c.args.self.now (nodes_in c.self.inside.codes.keys) c.self.inside.facts.items c.push.new.self.items c.args.facts c.args.node.items c.len-k.result c.self.view_is c.self.invariant c.requires.is_node c.requires.known c.in_ok-push.ensures.items (new-keys c.self.inside.nodes.keys c.insert_full.new.self.keys c.args.node c.as_slice.result.now c.as_slice.ensures.value (sym c.in_default.ensures.found) c.in-Ok.ensures.keys) c.in-Ok.ensures.unique c.len-k.ensures.len).table

pub returns-clause-held : goal.returns-clause-held
returns-clause-held c = (kept-new (map head_of c.self.inside.heads.items) c.self.inside.nodes.keys c.insert_full.new.self.keys c.args.self.now (nodes_in c.self.inside.codes.keys) c.self.inside.facts.items c.push.new.self.items c.args.facts c.args.node.items c.len-k.result c.self.view_is c.self.invariant c.requires.is_node c.requires.known c.in_ok-push.ensures.items (new-keys c.self.inside.nodes.keys c.insert_full.new.self.keys c.args.node c.as_slice.result.now c.as_slice.ensures.value (sym c.in_default.ensures.found) c.in-Ok.ensures.keys) c.in-Ok.ensures.unique c.len-k.ensures.len).held

pub returns-clause-kept : goal.returns-clause-kept
returns-clause-kept c = (kept-new (map head_of c.self.inside.heads.items) c.self.inside.nodes.keys c.insert_full.new.self.keys c.args.self.now (nodes_in c.self.inside.codes.keys) c.self.inside.facts.items c.push.new.self.items c.args.facts c.args.node.items c.len-k.result c.self.view_is c.self.invariant c.requires.is_node c.requires.known c.in_ok-push.ensures.items (new-keys c.self.inside.nodes.keys c.insert_full.new.self.keys c.args.node c.as_slice.result.now c.as_slice.ensures.value (sym c.in_default.ensures.found) c.in-Ok.ensures.keys) c.in-Ok.ensures.unique c.len-k.ensures.len).kept

pub returns-clause-earlier_stay : goal.returns-clause-earlier_stay
returns-clause-earlier_stay c = (kept-new (map head_of c.self.inside.heads.items) c.self.inside.nodes.keys c.insert_full.new.self.keys c.args.self.now (nodes_in c.self.inside.codes.keys) c.self.inside.facts.items c.push.new.self.items c.args.facts c.args.node.items c.len-k.result c.self.view_is c.self.invariant c.requires.is_node c.requires.known c.in_ok-push.ensures.items (new-keys c.self.inside.nodes.keys c.insert_full.new.self.keys c.args.node c.as_slice.result.now c.as_slice.ensures.value (sym c.in_default.ensures.found) c.in-Ok.ensures.keys) c.in-Ok.ensures.unique c.len-k.ensures.len).earlier
