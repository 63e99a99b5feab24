use Rattle.std.proofs.Common.{◌∙◌, ap, sym, map}
use Rattle.ir_uses.specs.Shapes.{shape_type, shapes_of}
use Rattle.mono_fits.specs.Asked.{tuple_stands}
use Rattle.mono_uses.specs.Shaped.{is_labelled}
use Rattle.mono_uses.proofs.Shapes.{pair-stands, triple-stands}
use Rattle.mono_uses.proofs.primitive.is_tuple.Goals as goal

pub returns-in-Two : goal.returns-in-Two
returns-in-Two c = c.is_labelled.ensures ∙ ap (is_labelled c.args.types.now c.args.u c.args.n) c.in-Two.is ∙ pair-stands c.args.types.now c.args.u c.args.n c.in-Two.field-0 c.in-Two.field-1
    ∙ ap (λ s. tuple_stands c.args.types.now c.args.u c.args.n (map shape_type (shapes_of s))) (sym c.in-Two.is)

pub returns-in-Three : goal.returns-in-Three
returns-in-Three c = c.is_labelled-in-Three.ensures ∙ ap (is_labelled c.args.types.now c.args.u c.args.n) c.in-Three.is
    ∙ triple-stands c.args.types.now c.args.u c.args.n c.in-Three.field-0 c.in-Three.field-1 c.in-Three.field-2 ∙ ap (λ s. tuple_stands c.args.types.now c.args.u c.args.n (map shape_type (shapes_of s))) (sym c.in-Three.is)
