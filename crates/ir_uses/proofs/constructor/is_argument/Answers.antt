use Rattle.std.proofs.Common.{map}
use Rattle.ty_table.specs.TypeAt.{type_at}
use Rattle.ir_known.specs.declared.image.Rest.TheVariants.{Unit}
use Rattle.ir_known.specs.Images.{image_of}
use Rattle.ir_uses.proofs.Constructing.{argument-of, argument-cell, argument-nothing}
use Rattle.ir_uses.proofs.Putting.{order-image}
use Rattle.ir_uses.proofs.constructor.is_argument.Goals as goal

pub returns-in-Nothing : goal.returns-in-Nothing
returns-in-Nothing c = argument-nothing c.args.types.now (map (type_at c.args.types.now) c.args.parts.now) c.args.argument (type_at c.args.types.now c.args.t) c.in-Nothing.is

pub returns-in_ok-yes-in-Of : goal.returns-in_ok-yes-in-Of
returns-in_ok-yes-in-Of c = argument-of c.args.types.now (map (type_at c.args.types.now) c.args.parts.now) c.args.argument (type_at c.args.types.now c.args.t) c.in-Of.body (image_of c.args.types.now c.in_ok-images-in-Of.images Unit) c.in_ok-yes-in-Of.yes c.in-Of.is
    (order-image c.args.types.now c.args.parts.now c.in_ok-images-in-Of.images c.in_ok-images-in-Of.ensures (type_at c.args.types.now c.in-Of.body)) c.in_ok-yes-in-Of.ensures

pub returns-in-Cell : goal.returns-in-Cell
returns-in-Cell c = argument-cell c.args.types.now (map (type_at c.args.types.now) c.args.parts.now) c.args.argument (type_at c.args.types.now c.args.t) c.is_cell.result c.in-Cell.is c.is_cell.ensures
