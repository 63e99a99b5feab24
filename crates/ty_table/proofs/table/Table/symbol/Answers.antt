use Rattle.std.proofs.Common.{map, ap, sym, ◌∙◌}
use Rattle.ty_core.specs.TypesOf.{head_of}
use Rattle.ty_table.specs.Nodes.{types_of}
use Rattle.ty_table.proofs.Keeping.{nodes_in, symbol-found, symbol-kept, new-keys}
use Rattle.ty_table.proofs.table.Table.symbol.Goals as goal

pub returns-in-Some-clause-within : goal.returns-in-Some-clause-within
returns-in-Some-clause-within c = rw (← c.self.view_is) (symbol-found (map head_of c.self.inside.heads.items) c.self.inside.codes.keys c.in-Some.found (head_of c.args.head) c.as_slice.result.now c.self.invariant.coded (c.as_slice.ensures.value ∙ c.in_ok-code.ensures) c.in-Some.ensures.index).within

pub returns-in-Some-clause-is : goal.returns-in-Some-clause-is
returns-in-Some-clause-is c = rw (← c.self.view_is) (symbol-found (map head_of c.self.inside.heads.items) c.self.inside.codes.keys c.in-Some.found (head_of c.args.head) c.as_slice.result.now c.self.invariant.coded (c.as_slice.ensures.value ∙ c.in_ok-code.ensures) c.in-Some.ensures.index).is

pub invariant_of-self-in-Ok : goal.invariant_of-self-in-Ok
invariant_of-self-in-Ok c = (symbol-kept c.self.inside.heads.items c.push.new.self.items (nodes_in c.self.inside.nodes.keys) c.self.inside.facts.items c.self.inside.codes.keys c.insert_full.new.self.keys c.in_ok-code.code c.len-s.result c.args.head c.self.invariant c.in_ok-push.ensures.items c.in_ok-code.ensures (new-keys c.self.inside.codes.keys c.insert_full.new.self.keys c.in_ok-code.code c.as_slice.result.now c.as_slice.ensures.value (sym c.in_default.ensures.found) c.in-Ok.ensures.keys) c.in-Ok.ensures.unique c.len-s.ensures.len).table

pub returns-clause-within : goal.returns-clause-within
returns-clause-within c = (symbol-kept c.self.inside.heads.items c.push.new.self.items (nodes_in c.self.inside.nodes.keys) c.self.inside.facts.items c.self.inside.codes.keys c.insert_full.new.self.keys c.in_ok-code.code c.len-s.result c.args.head c.self.invariant c.in_ok-push.ensures.items c.in_ok-code.ensures (new-keys c.self.inside.codes.keys c.insert_full.new.self.keys c.in_ok-code.code c.as_slice.result.now c.as_slice.ensures.value (sym c.in_default.ensures.found) c.in-Ok.ensures.keys) c.in-Ok.ensures.unique c.len-s.ensures.len).number.within

pub returns-clause-is : goal.returns-clause-is
returns-clause-is c = (symbol-kept c.self.inside.heads.items c.push.new.self.items (nodes_in c.self.inside.nodes.keys) c.self.inside.facts.items c.self.inside.codes.keys c.insert_full.new.self.keys c.in_ok-code.code c.len-s.result c.args.head c.self.invariant c.in_ok-push.ensures.items c.in_ok-code.ensures (new-keys c.self.inside.codes.keys c.insert_full.new.self.keys c.in_ok-code.code c.as_slice.result.now c.as_slice.ensures.value (sym c.in_default.ensures.found) c.in-Ok.ensures.keys) c.in-Ok.ensures.unique c.len-s.ensures.len).number.is

pub returns-clause-types : goal.returns-clause-types
returns-clause-types c = (symbol-kept c.self.inside.heads.items c.push.new.self.items (nodes_in c.self.inside.nodes.keys) c.self.inside.facts.items c.self.inside.codes.keys c.insert_full.new.self.keys c.in_ok-code.code c.len-s.result c.args.head c.self.invariant c.in_ok-push.ensures.items c.in_ok-code.ensures (new-keys c.self.inside.codes.keys c.insert_full.new.self.keys c.in_ok-code.code c.as_slice.result.now c.as_slice.ensures.value (sym c.in_default.ensures.found) c.in-Ok.ensures.keys) c.in-Ok.ensures.unique c.len-s.ensures.len).types ∙ ap types_of c.self.view_is
