use Rattle.std.proofs.Common.{sym, ap, ◌∙◌}
use Rattle.ir_tables.specs.Tables.{strings_of}
use Rattle.prog_pats.proofs.of_prog_parts.Truths.{ok-as}
use Rattle.prog_leaves.specs.Right.{atom_right}
use Rattle.prog_leaves.proofs.atoms.check_atom.Goals as goal

pub returns-in-Constant : goal.returns-in-Constant
returns-in-Constant c = c.has_literal.ensures.decided (strings_of c.args.tables.now) ∙ ap (λ a. atom_right c.args.tables.now c.args.environment.now a c.args.ty) (sym c.in-Constant.is)

pub returns-in-Own : goal.returns-in-Own
returns-in-Own c = c.is_own.ensures ∙ ap (λ a. atom_right c.args.tables.now c.args.environment.now a c.args.ty) (sym c.in-Own.is)

pub returns-in-Exception : goal.returns-in-Exception
returns-in-Exception c = c.is_exception.ensures ∙ ap (λ a. atom_right c.args.tables.now c.args.environment.now a c.args.ty) (sym c.in-Exception.is)

pub returns-in-Reference : goal.returns-in-Reference
returns-in-Reference c = ok-as c.check_reference.result _ _ (ap (λ a. atom_right c.args.tables.now c.args.environment.now a c.args.ty) (sym c.in-Reference.is)) c.check_reference.ensures
