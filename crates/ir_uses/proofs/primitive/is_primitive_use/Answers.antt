use Rattle.std.proofs.Common.{map}
use Rattle.ty_table.specs.TypeAt.{type_at}
use Rattle.ir_known.specs.Knows.{marks_of}
use Rattle.ir_uses.proofs.Describing.{prim-long, prim-not-over, prim-over, single, mapped-long}
use Rattle.ir_uses.proofs.primitive.is_primitive_use.Goals as goal

pub returns-then-ts-ne1 : goal.returns-then-ts-ne1
returns-then-ts-ne1 c = prim-long (marks_of c.args.scope.now) c.args.primitive (type_at c.args.types.now c.args.t) (map (type_at c.args.types.now) c.args.ts.now) (mapped-long (type_at c.args.types.now) c.args.ts.now 1 c.if-ts-ne1.true)

pub returns-then-not-over : goal.returns-then-not-over
returns-then-not-over c = prim-not-over (marks_of c.args.scope.now) c.args.primitive (type_at c.args.types.now c.args.t) (map (type_at c.args.types.now) c.args.ts.now) _ c.in_ok-over.over (single c.args.types.now c.args.ts.now _ c.if-ts-ne1.false)
    c.in_ok-over.ensures c.if-not-over.true

pub returns : goal.returns
returns c = prim-over (marks_of c.args.scope.now) c.args.primitive (type_at c.args.types.now c.args.t) (map (type_at c.args.types.now) c.args.ts.now) _ c.in_ok-over.over c.in_ok-yes.yes (single c.args.types.now c.args.ts.now _ c.if-ts-ne1.false)
    c.in_ok-over.ensures c.if-not-over.false c.in_ok-yes.ensures
