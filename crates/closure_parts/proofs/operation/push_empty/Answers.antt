use Rattle.std.proofs.Common.{map, ap}
use Rattle.ir_first.specs.Tree as out
use Rattle.first_tree.specs.declared.tree.Operation.TheVariants.{Make}
use Rattle.first_tables.specs.TablesOf.{piece_of}
use Rattle.closure_parts.proofs.Operating.{if-ok}
use Rattle.closure_parts.proofs.Putting.{let-as}
use Rattle.closure_parts.proofs.operation.push_empty.Goals as goal

pub returns : goal.returns
returns c = if-ok _ _ c.push_let.result (λ u p. let-as c.args.steps.now.items c.push_let.new.steps.items c.args.name (Make c.args.tag c.new.result) _ (ap (λ l. out.make c.args.tag (map piece_of l)) c.new.ensures.items) p) c.push_let.ensures
