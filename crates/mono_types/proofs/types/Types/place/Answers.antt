use Rattle.std.proofs.Common.{◌≡◌, ◌++◌, ◌∷◌, List, ℕ, Bool, false, length, map, sym, subst, ◌∙◌, ap, ap₂, Vec, Global}
use Rattle.std.specs.List.{list_any, IsDistinct}
use Rattle.indexmap.specs.IndexSet.{insert_key}
use Rattle.ty_core.specs.TypesOf.{head_of}
use Rattle.ty_core.specs.declared.ty.Head.{Head}
use Rattle.mlc_names.proofs.NamesLemmas.{held_found, one_to_one}
use Rattle.ty_table.proofs.Keeping.{nodes_in}
use Rattle.ir_mono.specs.Types.{node}
use Rattle.mono_types.specs.Codes.{node_code}
use Rattle.mono_types.specs.Rows.{rows_of, IsPlaced}
use Rattle.mono_types.proofs.Keeping.{placed-found}
use Rattle.mono_types.proofs.Placing.{placed-fresh}
use Rattle.mono_types.proofs.types.Types.place.Goals as goal

pub returns-in-Some-clause-ok : goal.returns-in-Some-clause-ok
returns-in-Some-clause-ok c = subst (λ t. IsPlaced t (node (head_of c.args.head) c.args.parts.items) c.args.equality c.in-Some.found t) c.self.view_is
    (placed-found (rows_of c.self.inside.rows.items) (nodes_in c.self.inside.codes.keys) (node (head_of c.args.head) c.args.parts.items) c.args.equality c.in-Some.found c.as_slice.result.now c.self.invariant
    (c.as_slice.ensures.value ∙ c.in_ok-code.ensures ∙ ap (λ ps. node_code (node (head_of c.args.head) ps)) c.deref.ensures.value) (held_found c.as_slice.result.now c.self.inside.codes.keys c.in-Some.found c.in-Some.ensures.index))

pub invariant_of-self-in-Ok : goal.invariant_of-self-in-Ok
invariant_of-self-in-Ok c = (placed-fresh c.self.inside.rows.items c.push.new.self.items c.self.inside.codes.keys c.insert_full.new.self.keys c.args.head c.args.parts c.args.equality c.len-n.result c.in_ok-code.code c.as_slice.result.now c.new-constructors.result
    c.self.invariant (c.in_ok-code.ensures ∙ ap (λ ps. node_code (node (head_of c.args.head) ps)) c.deref.ensures.value) c.new-constructors.ensures c.in_ok-push.ensures.items c.as_slice.ensures.value (sym c.in_default.ensures.found) c.in-Ok.ensures.keys c.in-Ok.ensures.unique
    c.len-n.ensures.len).stored

pub returns-clause-ok : goal.returns-clause-ok
returns-clause-ok c = subst (λ t. IsPlaced t (node (head_of c.args.head) c.args.parts.items) c.args.equality c.len-n.result (rows_of c.push.new.self.items)) c.self.view_is
    (placed-fresh c.self.inside.rows.items c.push.new.self.items c.self.inside.codes.keys c.insert_full.new.self.keys c.args.head c.args.parts c.args.equality c.len-n.result c.in_ok-code.code c.as_slice.result.now c.new-constructors.result
    c.self.invariant (c.in_ok-code.ensures ∙ ap (λ ps. node_code (node (head_of c.args.head) ps)) c.deref.ensures.value) c.new-constructors.ensures c.in_ok-push.ensures.items c.as_slice.ensures.value (sym c.in_default.ensures.found) c.in-Ok.ensures.keys c.in-Ok.ensures.unique
    c.len-n.ensures.len).placed
