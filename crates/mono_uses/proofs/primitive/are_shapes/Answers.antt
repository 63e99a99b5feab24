use Rattle.std.proofs.Common.{◌∙◌, ap, sym, map}
use Rattle.ty_core.specs.Types.{typs_of}
use Rattle.ir_uses.specs.Shapes.{shape_type, shapes_of}
use Rattle.mono_fits.specs.Asked.{all_stand}
use Rattle.mono_uses.proofs.Shapes.{one-stands, two-stand, three-stand}
use Rattle.mono_uses.proofs.primitive.are_shapes.Goals as goal

pub returns-in-One : goal.returns-in-One
returns-in-One c = c.is_one.ensures ∙ one-stands c.args.types.now c.args.u c.args.ns.now c.in-One.a
    ∙ ap (λ s. all_stand c.args.types.now c.args.u c.args.ns.now (typs_of (map shape_type (shapes_of s)))) (sym c.in-One.is)

pub returns-in-Two : goal.returns-in-Two
returns-in-Two c = c.are_two.ensures ∙ two-stand c.args.types.now c.args.u c.args.ns.now c.in-Two.a c.in-Two.b
    ∙ ap (λ s. all_stand c.args.types.now c.args.u c.args.ns.now (typs_of (map shape_type (shapes_of s)))) (sym c.in-Two.is)

pub returns-in-Three : goal.returns-in-Three
returns-in-Three c = c.are_three.ensures ∙ three-stand c.args.types.now c.args.u c.args.ns.now c.in-Three.a c.in-Three.b c.in-Three.third
    ∙ ap (λ s. all_stand c.args.types.now c.args.u c.args.ns.now (typs_of (map shape_type (shapes_of s)))) (sym c.in-Three.is)
