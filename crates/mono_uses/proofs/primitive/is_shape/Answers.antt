use Rattle.std.proofs.Common.{◌∙◌, ap, sym}
use Rattle.ir_uses.specs.Shapes.{shape_type}
use Rattle.mono_fits.specs.Asked.{stands}
use Rattle.mono_uses.proofs.Shapes.{reference-stands, named-stands, unit-stands}
use Rattle.mono_uses.proofs.primitive.is_shape.Goals as goal

pub returns-in-Reference : goal.returns-in-Reference
returns-in-Reference c = c.is_reference.ensures ∙ reference-stands c.args.types.now c.args.u c.args.n ∙ ap (λ s. stands c.args.types.now c.args.u c.args.n (shape_type s)) (sym c.in-Reference.is)

pub returns-in-Named : goal.returns-in-Named
returns-in-Named c = c.is_named.ensures ∙ named-stands c.args.types.now c.args.u c.args.n c.in-Named.name ∙ ap (λ s. stands c.args.types.now c.args.u c.args.n (shape_type s)) (sym c.in-Named.is)

pub returns-in-Unit : goal.returns-in-Unit
returns-in-Unit c = c.is_unit.ensures ∙ unit-stands c.args.types.now c.args.u c.args.n ∙ ap (λ s. stands c.args.types.now c.args.u c.args.n (shape_type s)) (sym c.in-Unit.is)
