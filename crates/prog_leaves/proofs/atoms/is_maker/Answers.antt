use Rattle.std.proofs.Common.{ap, ◌∙◌}
use Rattle.ty_table.specs.TypeAt.{type_at}
use Rattle.ir_poly.specs.Types.{function_type, ref_type}
use Rattle.prog_pats.proofs.of_prog_parts.Truths.{not-same}
use Rattle.prog_leaves.proofs.Typing.{made-some}
use Rattle.prog_leaves.proofs.atoms.is_maker.Goals as goal

pub returns-in-Some : goal.returns-in-Some
returns-in-Some c = made-some (type_at c.args.types.now c.args.ty) (type_at c.args.types.now c.args.held) (type_at c.args.types.now c.in-Some.made) (ref_type (type_at c.args.types.now c.args.held)) c.is_reference.result
    c.in-Some.ensures c.is_reference.ensures

pub returns-in-None : goal.returns-in-None
returns-in-None c = not-same (type_at c.args.types.now c.args.ty) (function_type (type_at c.args.types.now c.args.held) (ref_type (type_at c.args.types.now c.args.held))) (c.in-None.ensures (ref_type (type_at c.args.types.now c.args.held)))
