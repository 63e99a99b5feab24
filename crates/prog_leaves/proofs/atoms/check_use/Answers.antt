use Rattle.std.proofs.Common.{sym, ap}
use Rattle.prog_pats.proofs.of_prog_parts.Truths.{ok-as}
use Rattle.prog_leaves.specs.Right.{use_right}
use Rattle.prog_leaves.proofs.atoms.check_use.Goals as goal

pub returns-in-Variable : goal.returns-in-Variable
returns-in-Variable c = ok-as c.check_variable.result _ _ (ap (λ u. use_right c.args.tables.now c.args.environment.now u c.args.ts.now c.args.ty) (sym c.in-Variable.is)) c.check_variable.ensures

pub returns-in-Constructor : goal.returns-in-Constructor
returns-in-Constructor c = ok-as c.is_constructor_use.result _ _ (ap (λ u. use_right c.args.tables.now c.args.environment.now u c.args.ts.now c.args.ty) (sym c.in-Constructor.is)) c.is_constructor_use.ensures

pub returns-in-Primitive : goal.returns-in-Primitive
returns-in-Primitive c = ok-as c.is_primitive_use.result _ _ (ap (λ u. use_right c.args.tables.now c.args.environment.now u c.args.ts.now c.args.ty) (sym c.in-Primitive.is)) c.is_primitive_use.ensures
