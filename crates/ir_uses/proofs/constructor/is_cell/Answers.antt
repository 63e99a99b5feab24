use Rattle.std.proofs.Common.{map}
use Rattle.ty_core.specs.Types.{labels}
use Rattle.ty_table.specs.TypeAt.{type_at, types_at}
use Rattle.ir_known.specs.of_ir_poly.Types.{list_type, nth_type}
use Rattle.ir_known.proofs.Declaring.{not-yes}
use Rattle.ir_uses.proofs.Constructing.{pair-labels, pair-long, pair-first, pair-is}
use Rattle.ir_uses.proofs.constructor.is_cell.Goals as goal

pub returns-then-not-are_pair : goal.returns-then-not-are_pair
returns-then-not-are_pair c = let x = nth_type (map (type_at c.args.types.now) c.args.parts.now) 0 in
    pair-labels (type_at c.args.types.now c.args.t) x (list_type x) c.in-Some.labels.now (types_at c.args.types.now c.in-Some.held.now) c.in-Some.ensures (λ p. not-yes c.if-not-are_pair.true (c.are_pair.ensures.1 p))

pub returns-then-held-ne2 : goal.returns-then-held-ne2
returns-then-held-ne2 c = let x = nth_type (map (type_at c.args.types.now) c.args.parts.now) 0 in
    pair-long c.args.types.now (type_at c.args.types.now c.args.t) x (list_type x) (labels c.in-Some.labels.now) c.in-Some.held.now c.in-Some.ensures c.if-held-ne2.true

pub returns-then-not-is_first : goal.returns-then-not-is_first
returns-then-not-is_first c = let x = nth_type (map (type_at c.args.types.now) c.args.parts.now) 0 in
    pair-first c.args.types.now (type_at c.args.types.now c.args.t) x (list_type x) (labels c.in-Some.labels.now) c.in-Some.held.now _ c.in-Some.ensures c.if-held-ne2.false (λ p. not-yes c.if-not-is_first.true (c.is_first.ensures.1 p))

pub returns-else-not-is_first : goal.returns-else-not-is_first
returns-else-not-is_first c = let x = nth_type (map (type_at c.args.types.now) c.args.parts.now) 0 in
    pair-is c.args.types.now (type_at c.args.types.now c.args.t) x (list_type x) c.in-Some.labels.now c.in-Some.held.now _ _ c.is_list.result c.in-Some.ensures (c.are_pair.ensures.0 c.if-not-are_pair.false) c.if-held-ne2.false
    (c.is_first.ensures.0 c.if-not-is_first.false) c.is_list.ensures
